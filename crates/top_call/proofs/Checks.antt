-- What the check of a journal comes to explains the outcome.
use Rattle.std.proofs.Common.{◌≡◌, ℕ, ◌≤◌, ◌<◌, List, length, Option, None, Some, Ok, Err, refl, sym, subst, arith}
use Rattle.text_rules.specs.declared.limits.TheConstants.{TEXT_MOST}
use Rattle.sky_io.specs.Shelves.{ShelfState, named_text}
use Rattle.sky_io.specs.Sinks.{SinkState}
use Rattle.scan_rules.specs.declared.journal.Journal.{Journal as JournalView}
use Rattle.scan_history.specs.Texts.{journal_of}
use Rattle.scan_history.specs.Checked.{IsRight, ServesRightly}
use Rattle.scan_history.specs.declared.fault.HistoryFault.{HistoryFault}
use Rattle.top_call.specs.Words.{Check, names_of}
use Rattle.top_call.specs.Reached.{HasText, IfObservable, IsAccepted, Texts, place_of, text_at}
use Rattle.top_call.specs.Journals.{IsChecked, IsFaultOf, IsJournalFault, IsJournalOf}
use Rattle.top_call.specs.Jobs.{Checks}
use Rattle.top_call.specs.Explained.{ExplainedOf, shown}
use Rattle.top_call.specs.Steps.{IsWhole, IsWholeStop, IsWritten}
use Rattle.top_call.specs.Checks.{IsCheckOf, IsCheckOver}
use Rattle.top_call.specs.declared.outcome.Which.{Which}
use Rattle.top_call.specs.declared.outcome.Which.TheVariants.{Sky, Catalogue, Sources, Script, Journal}
use Rattle.top_call.specs.declared.outcome.Outcome.{Outcome}
use Rattle.top_call.specs.declared.outcome.Outcome.TheVariants.{Done, Usage, BadSky, BadCatalogue, BadSources, BadScript}
use Rattle.top_call.specs.declared.outcome.Outcome.TheVariants.{TooLong, ShelfFault, SinkFault, Memory, BadJournal}
use Rattle.top_call.proofs.Stops.{EarlierAccepted, whole_stop}
use Rattle.top_call.proofs.Tasks.{stop_explained}
use Rattle.top_call.proofs.Writing.{job_explained}

-- The fault of a text that spells nothing is its fault.
pub read_fault : (text : List ℕ) (fault : HistoryFault) → journal_of text ≡ Err fault → IsFaultOf (journal_of text) fault
read_fault text fault is = subst (λ r. IsFaultOf r fault) (sym is) refl

-- What the writing of the line of a right journal comes to is what its check comes to.
pub check_written : (journal : JournalView) (old new : SinkState) (outcome : Outcome) → IsRight journal
    → ServesRightly journal.lines → IsWritten (Checks journal) old new outcome → IsCheckOf journal old new outcome
check_written journal old new (Done ends) right serves h = record {
  checked = record { right = right; serves = serves };
  work = h;
}
check_written journal old new (SinkFault ends) right serves h = record {
  checked = record { right = right; serves = serves };
  work = h;
}
check_written journal old new Usage right serves h = absurd h
check_written journal old new (BadSky fault) right serves h = absurd h
check_written journal old new (BadCatalogue fault) right serves h = absurd h
check_written journal old new (BadSources fault) right serves h = absurd h
check_written journal old new (BadScript fault) right serves h = absurd h
check_written journal old new (TooLong which) right serves h = absurd h
check_written journal old new (ShelfFault which) right serves h = absurd h
check_written journal old new Memory right serves h = h
check_written journal old new (BadJournal fault) right serves h = absurd h

-- What the check of the journal that a text spells comes to is what the check of the text comes to.
pub check_over : (text : List ℕ) (journal : JournalView) (old new : SinkState) (outcome : Outcome) → journal_of text ≡ Ok journal
    → IsCheckOf journal old new outcome → IsCheckOver text old new outcome
check_over text journal old new (Done ends) is h = record { journal = journal; read = is; check = h }
check_over text journal old new (SinkFault ends) is h = record { journal = journal; read = is; check = h }
check_over text journal old new Usage is h = absurd h.work
check_over text journal old new (BadSky fault) is h = absurd h.work
check_over text journal old new (BadCatalogue fault) is h = absurd h.work
check_over text journal old new (BadSources fault) is h = absurd h.work
check_over text journal old new (BadScript fault) is h = absurd h.work
check_over text journal old new (TooLong which) is h = absurd h.work
check_over text journal old new (ShelfFault which) is h = absurd h.work
check_over text journal old new Memory is h = h
check_over text journal old new (BadJournal fault) is h = (subst (λ r. IsFaultOf r fault) (sym is) h.0, h.1)

-- the journal that is read of the text is that of the named one
journal_visible : (name text : List ℕ) (journal : JournalView) (visible : Option Texts)
    → IfObservable visible (λ texts. named_text name texts ≡ text) → length text ≤ TEXT_MOST → journal_of text ≡ Ok journal
    → IsChecked journal → IfObservable visible (λ texts. IsJournalOf (named_text name texts) journal)
journal_visible name text journal None h short read checked = tt
journal_visible name text journal (Some texts) h short read checked =
    subst (λ t. IsJournalOf t journal) (sym h) (record { short = short; read = read; right = checked.right })

fault_visible : (name text : List ℕ) (fault : HistoryFault) (visible : Option Texts)
    → IfObservable visible (λ texts. named_text name texts ≡ text) → length text ≤ TEXT_MOST → IsFaultOf (journal_of text) fault
    → IfObservable visible (λ texts. IsJournalFault (text_at (names_of (Check name)) texts Journal) fault)
fault_visible name text fault None h short is = tt
fault_visible name text fault (Some texts) h short is = subst (λ t. IsJournalFault t fault) (sym h) (short, is)

-- the command has no other text, so none is before a journal
none_before : (name : List ℕ) (texts : Texts) (earlier : Which) → HasText (names_of (Check name)) earlier
    → place_of earlier < place_of Journal → IsAccepted earlier (text_at (names_of (Check name)) texts earlier)
none_before name texts Sky has low = absurd (cc has)
none_before name texts Catalogue has low = absurd (cc has)
none_before name texts Sources has low = absurd (cc has)
none_before name texts Script has low = absurd (cc has)
none_before name texts Journal has low = absurd (omega (arith, low))

none_earlier : (name : List ℕ) (visible : Option Texts) → EarlierAccepted (names_of (Check name)) Journal visible
none_earlier name None = tt
none_earlier name (Some texts) = none_before name texts

-- what the check of the named text comes to explains the outcome
check_explained : (name text : List ℕ) (old new : ShelfState) (before now : SinkState) (outcome : Outcome)
    → IsWhole name Journal text old new → IsCheckOver text before now outcome
    → ExplainedOf (Check name) (shown old new before now) outcome
check_explained name text old new before now (Done ends) given h =
    job_explained (Check name) (Checks h.journal) old new before now (Done ends) (
      h.journal,
      refl,
      h.check.checked,
      journal_visible name text h.journal old.texts given.read.holds given.short h.read h.check.checked,
    )
    (λ ends fits. tt) given.read.same h.check.work
check_explained name text old new before now (SinkFault ends) given h =
    job_explained (Check name) (Checks h.journal) old new before now (SinkFault ends) (
      h.journal,
      refl,
      h.check.checked,
      journal_visible name text h.journal old.texts given.read.holds given.short h.read h.check.checked,
    )
    (λ ends fits. tt) given.read.same h.check.work
check_explained name text old new before now Usage given h = absurd h.check.work
check_explained name text old new before now (BadSky fault) given h = absurd h.check.work
check_explained name text old new before now (BadCatalogue fault) given h = absurd h.check.work
check_explained name text old new before now (BadSources fault) given h = absurd h.check.work
check_explained name text old new before now (BadScript fault) given h = absurd h.check.work
check_explained name text old new before now (TooLong which) given h = absurd h.check.work
check_explained name text old new before now (ShelfFault which) given h = absurd h.check.work
check_explained name text old new before now Memory given h = (given.read.same, h)
check_explained name text old new before now (BadJournal fault) given h = record {
  has = refl;
  earlier = none_earlier name old.texts;
  why = fault_visible name text fault old.texts given.read.holds given.short h.0;
  fetched = given.read.same;
  untouched = h.1;
}

-- The same, of a slice that is the named text.
pub slice_explained : (name text slice : List ℕ) (old new : ShelfState) (before now : SinkState) (outcome : Outcome)
    → IsWhole name Journal text old new → slice ≡ text → IsCheckOver slice before now outcome
    → ExplainedOf (Check name) (shown old new before now) outcome
slice_explained name text slice old new before now outcome given same h =
    check_explained name slice old new before now outcome (subst (λ t. IsWhole name Journal t old new) (sym same) given) h

-- Why a journal's text was not given explains the outcome.
pub unfetched : (name : List ℕ) (old new : ShelfState) (sink : SinkState) (outcome : Outcome)
    → IsWholeStop name Journal old new outcome → ExplainedOf (Check name) (shown old new sink sink) outcome
unfetched name old new sink outcome h =
    stop_explained (Check name) (shown old new sink sink) outcome
    (whole_stop (names_of (Check name)) Journal old new outcome refl (none_earlier name old.texts) h sink)
