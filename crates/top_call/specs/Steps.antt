-- The meaning of each step of the top call but for the work on a script: the fetch of a text, and the writing of a job.
use Rattle.std.specs.Prelude.{◌≡◌, ◌<◌, ◌≤◌, ℕ, List, false, length, Option}
use Rattle.sky_io.specs.Shelves.{ShelfState, GivesText, GrewBy, named_text, times}
use Rattle.sky_io.specs.Sinks.{SinkState, Appended, AppendedPart, Rose, Flushed}
use Rattle.sky_io.specs.declared.sink.Put.TheVariants as Put
use Rattle.chunk_store.specs.Survey.{Survey}
use Rattle.session_rules.specs.declared.end.EndKind.{EndKind}
use Rattle.top_call.specs.Words.{Names, names_from}
use Rattle.top_call.specs.Reached.{IfObservable, IsCatalogueFault, IsLong, IsSkyFault, IsSourcesFault, Texts, limit_of}
use Rattle.top_call.specs.Jobs.{Job, EndsFit, IsSurveyOf, Writes}
use Rattle.top_call.specs.Explained.{IsStop, shown}
use Rattle.top_call.specs.declared.outcome.Which.{Which}
use Rattle.top_call.specs.declared.outcome.Which.TheVariants.{Sky, Catalogue, Sources, Script}
use Rattle.top_call.specs.declared.outcome.Outcome.{Outcome}
use Rattle.top_call.specs.declared.outcome.Outcome.TheVariants.{Done, BadSky, BadCatalogue, BadSources, TooLong}
use Rattle.top_call.specs.declared.outcome.Outcome.TheVariants.{ShelfFault, SinkFault, Memory}

-- The text was given, and the shelf is as it was.
pub record IsGiven (name : List ℕ) (limit : ℕ) (text : List ℕ) (old new : ShelfState) : Type 0 where
  pub same : new ≡ old
  pub given : GivesText old.texts name limit text

-- A fetch of this name has failed, and of no other.
pub record HasFailed (name : List ℕ) (old new : ShelfState) : Type 0 where
  pub grew : GrewBy name old.failed new.failed
  pub cause : times name old.failed < times name new.failed

-- the reason for which a text was not given: it could not be fetched, or an allocation failed
abbrev pub IsFetchFault : List ℕ → Which → ShelfState → ShelfState → Outcome → Type 0
IsFetchFault name which old new (ShelfFault named) = (named ≡ which) × HasFailed name old new
IsFetchFault name which old new Memory = new ≡ old
IsFetchFault name which old new _ = ⊥

-- Something holds of the texts, if they are observable, and the shelf is as it was.
pub record IsRead (Holds : Texts → Type 0) (old new : ShelfState) : Type 0 where
  pub same : new ≡ old
  pub holds : IfObservable old.texts Holds

-- something holds of the named text
abbrev pub OfNamed : List ℕ → (List ℕ → Type 0) → Texts → Type 0
OfNamed name Holds texts = Holds (named_text name texts)

-- The whole of a text within its limit was given, and the shelf is as it was.
pub record IsWhole (name : List ℕ) (which : Which) (text : List ℕ) (old new : ShelfState) : Type 0 where
  pub short : length text ≤ limit_of which
  pub read : IsRead (OfNamed name (λ whole. whole ≡ text)) old new

-- the reason for which the whole of a text was not given: it is too long, it could not be fetched, or an allocation
-- failed
abbrev pub IsWholeStop : List ℕ → Which → ShelfState → ShelfState → Outcome → Type 0
IsWholeStop name which old new (TooLong named) = (named ≡ which) × IsRead (OfNamed name (IsLong which)) old new
IsWholeStop name which old new (ShelfFault named) = (named ≡ which) × HasFailed name old new
IsWholeStop name which old new Memory = new ≡ old
IsWholeStop name which old new _ = ⊥

-- the reason for which a sky plan was not read
abbrev pub IsSkyStop : List ℕ → ShelfState → ShelfState → Outcome → Type 0
IsSkyStop name old new (BadSky fault) = IsRead (OfNamed name (λ text. IsSkyFault text fault)) old new
IsSkyStop name old new outcome = IsWholeStop name Sky old new outcome

-- the reason for which a catalogue was not read
abbrev pub IsCatalogueStop : List ℕ → ShelfState → ShelfState → Outcome → Type 0
IsCatalogueStop name old new (BadCatalogue fault) = IsRead (OfNamed name (λ text. IsCatalogueFault text fault)) old new
IsCatalogueStop name old new outcome = IsWholeStop name Catalogue old new outcome

-- the reason for which a source table was not read
abbrev pub IsSourcesStop : List ℕ → ShelfState → ShelfState → Outcome → Type 0
IsSourcesStop name old new (BadSources fault) = IsRead (OfNamed name (λ text. IsSourcesFault text fault)) old new
IsSourcesStop name old new outcome = IsWholeStop name Sources old new outcome

-- the shelf alone explains the outcome of a command with these names: over any sink that is not touched
abbrev pub IsShelfStop : Names → ShelfState → ShelfState → Outcome → Type 0
IsShelfStop names old new outcome = (sink : SinkState) → IsStop names (shown old new sink sink) outcome

-- the shelf alone explains the outcome of any command with a sky plan and a catalogue of these names
abbrev pub IsSurveyStop : (sky catalogue : List ℕ) → ShelfState → ShelfState → Outcome → Type 0
IsSurveyStop sky catalogue old new outcome =
    (sources script : Option (List ℕ)) → IsShelfStop (names_from sky catalogue sources script) old new outcome

-- The named texts are a survey and this text of a script, which is within its limit.
pub record AreGiven (sky catalogue script : List ℕ) (survey : Survey) (text : List ℕ) (old new : ShelfState) : Type 0 where
  pub short : length text ≤ limit_of Script
  pub read : IsRead (λ texts. IsSurveyOf sky catalogue survey texts × (named_text script texts ≡ text)) old new

-- All of a text that the job writes with these ends was written and sent.
pub record IsSent (job : Job) (ends : List EndKind) (old new : SinkState) : Type 0 where
  pub fits : EndsFit job ends
  pub text : List ℕ
  pub writes : Writes job ends text
  pub written : Appended old.written text new.written
  pub calm : new.faults ≡ old.faults
  pub sent : new.held ≡ false

-- The sink failed, with a prefix of such a text written.
pub record IsTorn (job : Job) (ends : List EndKind) (old new : SinkState) : Type 0 where
  pub fits : EndsFit job ends
  pub text : List ℕ
  pub writes : Writes job ends text
  pub written : AppendedPart old.written text new.written
  pub cause : Rose old.faults new.faults

-- the outcome of the writing of a job
abbrev pub IsWritten : Job → SinkState → SinkState → Outcome → Type 0
IsWritten job old new (Done ends) = IsSent job ends old new
IsWritten job old new (SinkFault ends) = IsTorn job ends old new
IsWritten job old new Memory = new ≡ old
IsWritten job old new _ = ⊥

-- the bytes that are held back were sent, or the sink failed
abbrev pub IsFlushed : List EndKind → SinkState → SinkState → Outcome → Type 0
IsFlushed ends old new (Done reported) = (reported ≡ ends) × Flushed old new Put.Done
IsFlushed ends old new (SinkFault reported) = (reported ≡ ends) × Flushed old new Put.Failed
IsFlushed ends old new _ = ⊥
