-- What the writing of a job comes to.
use Rattle.std.proofs.Common.{◌≡◌, ℕ, List, length, Option, refl, sym, subst, arith, ◌∙◌}
use Rattle.std.proofs.Math.Seq.{take-length}
use Rattle.sky_io.specs.Shelves.{ShelfState}
use Rattle.sky_io.specs.Sinks.{SinkState, Wrote, Flushed, Appended, AppendedPart, Rose}
use Rattle.sky_io.specs.declared.sink.Put.TheVariants as Put
use Rattle.session_rules.specs.declared.end.EndKind.{EndKind}
use Rattle.top_call.specs.Words.{Form}
use Rattle.top_call.specs.Jobs.{EndsFit, HasDemoEnds, IsJobOf, Job, Writes}
use Rattle.top_call.specs.Explained.{ExplainedOf, shown}
use Rattle.top_call.specs.Steps.{IsSent, IsTorn, IsWritten, IsFlushed}
use Rattle.top_call.specs.declared.outcome.Outcome.{Outcome}
use Rattle.top_call.specs.declared.outcome.Outcome.TheVariants.{Done, Usage, BadSky, BadCatalogue, BadSources, BadScript}
use Rattle.top_call.specs.declared.outcome.Outcome.TheVariants.{TooLong, ShelfFault, SinkFault, Memory, BadJournal}

-- all of a text is a front of it
all_part : (old new : Option (List ℕ)) (text : List ℕ) → Appended old text new → AppendedPart old text new
all_part old new text h = (length text, omega arith, subst (λ t. Appended old t new) (sym (take-length text)) h)

-- what was written and then sent
sent : (job : Job) (ends : List EndKind) (text : List ℕ) (old mid new : SinkState) → EndsFit job ends → Writes job ends text
    → Wrote old mid text Put.Done → Flushed mid new Put.Done → IsSent job ends old new
sent job ends text old mid new fits writes wrote flushed = record {
  fits = fits;
  text = text;
  writes = writes;
  written = subst (λ w. Appended old.written text w) (sym flushed.same) (wrote.done refl);
  calm = flushed.calm refl ∙ wrote.calm refl;
  sent = flushed.sent refl;
}

-- what was written and then not sent
unsent : (job : Job) (ends : List EndKind) (text : List ℕ) (old mid new : SinkState) → EndsFit job ends → Writes job ends text
    → Wrote old mid text Put.Done → Flushed mid new Put.Failed → IsTorn job ends old new
unsent job ends text old mid new fits writes wrote flushed = record {
  fits = fits;
  text = text;
  writes = writes;
  written = all_part old.written new.written text
      (subst (λ w. Appended old.written text w) (sym flushed.same) (wrote.done refl));
  cause = subst (λ n. Rose n new.faults) (wrote.calm refl) (flushed.cause refl);
}

-- A job of whose text a prefix alone was written is torn.
pub torn : (job : Job) (ends : List EndKind) (text : List ℕ) (old new : SinkState) → EndsFit job ends → Writes job ends text
    → Wrote old new text Put.Failed → IsTorn job ends old new
torn job ends text old new fits writes wrote = record {
  fits = fits;
  text = text;
  writes = writes;
  written = wrote.part refl;
  cause = wrote.cause refl;
}

-- A job whose text was written is done where all was sent, and else the sink failed.
pub written : (job : Job) (ends : List EndKind) (text : List ℕ) (old mid new : SinkState) (outcome : Outcome) → EndsFit job ends
    → Writes job ends text → Wrote old mid text Put.Done → IsFlushed ends mid new outcome → IsWritten job old new outcome
written job ends text old mid new (Done reported) fits writes wrote h =
    sent job reported text old mid new (subst (EndsFit job) (sym h.0) fits) (subst (λ e. Writes job e text) (sym h.0) writes)
    wrote h.1
written job ends text old mid new (SinkFault reported) fits writes wrote h =
    unsent job reported text old mid new (subst (EndsFit job) (sym h.0) fits) (subst (λ e. Writes job e text) (sym h.0) writes)
    wrote h.1
written job ends text old mid new Usage fits writes wrote h = absurd h
written job ends text old mid new (BadSky fault) fits writes wrote h = absurd h
written job ends text old mid new (BadCatalogue fault) fits writes wrote h = absurd h
written job ends text old mid new (BadSources fault) fits writes wrote h = absurd h
written job ends text old mid new (BadScript fault) fits writes wrote h = absurd h
written job ends text old mid new (TooLong which) fits writes wrote h = absurd h
written job ends text old mid new (ShelfFault which) fits writes wrote h = absurd h
written job ends text old mid new Memory fits writes wrote h = absurd h
written job ends text old mid new (BadJournal fault) fits writes wrote h = absurd h

-- The same, if the ends that are reported are those that were written.
pub written_as : (job : Job) (ends kinds : List EndKind) (text : List ℕ) (old mid new : SinkState) (outcome : Outcome)
    → kinds ≡ ends → EndsFit job ends → Writes job ends text → Wrote old mid text Put.Done → IsFlushed kinds mid new outcome
    → IsWritten job old new outcome
written_as job ends kinds text old mid new outcome is fits writes wrote h =
    written job kinds text old mid new outcome (subst (EndsFit job) (sym is) fits)
    (subst (λ e. Writes job e text) (sym is) writes) wrote h

-- The same, where a prefix alone was written.
pub torn_as : (job : Job) (ends kinds : List EndKind) (text : List ℕ) (old new : SinkState) → kinds ≡ ends → EndsFit job ends
    → Writes job ends text → Wrote old new text Put.Failed → IsTorn job kinds old new
torn_as job ends kinds text old new is fits writes wrote =
    torn job kinds text old new (subst (EndsFit job) (sym is) fits) (subst (λ e. Writes job e text) (sym is) writes) wrote

-- What the writing of what the form asks for comes to explains the outcome.
pub job_explained : (form : Form) (job : Job) (old new : ShelfState) (before now : SinkState) (outcome : Outcome)
    → IsJobOf form old.texts job → ((ends : List EndKind) → EndsFit job ends → HasDemoEnds form ends) → new ≡ old
    → IsWritten job before now outcome → ExplainedOf form (shown old new before now) outcome
job_explained form job old new before now (Done ends) asked reported same h = record {
  job = job;
  asked = asked;
  fetched = same;
  fits = h.fits;
  demo = reported ends h.fits;
  text = h.text;
  writes = h.writes;
  written = h.written;
  calm = h.calm;
  sent = h.sent;
}
job_explained form job old new before now (SinkFault ends) asked reported same h = record {
  job = job;
  asked = asked;
  fetched = same;
  fits = h.fits;
  demo = reported ends h.fits;
  text = h.text;
  writes = h.writes;
  written = h.written;
  cause = h.cause;
}
job_explained form job old new before now Memory asked reported same h = (same, h)
job_explained form job old new before now Usage asked reported same h = absurd h
job_explained form job old new before now (BadSky fault) asked reported same h = absurd h
job_explained form job old new before now (BadCatalogue fault) asked reported same h = absurd h
job_explained form job old new before now (BadSources fault) asked reported same h = absurd h
job_explained form job old new before now (BadScript fault) asked reported same h = absurd h
job_explained form job old new before now (TooLong which) asked reported same h = absurd h
job_explained form job old new before now (ShelfFault which) asked reported same h = absurd h
job_explained form job old new before now (BadJournal fault) asked reported same h = absurd h
