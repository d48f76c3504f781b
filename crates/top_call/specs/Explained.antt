-- The meaning of each outcome of the top call.
use Rattle.std.specs.Prelude.{◌≡◌, ◌<◌, ℕ, List, Option, None, Some, false}
use Rattle.sky_io.specs.Shelves.{ShelfState, GrewBy, times}
use Rattle.sky_io.specs.Sinks.{SinkState, Appended, AppendedPart, Rose}
use Rattle.session_rules.specs.declared.end.EndKind.{EndKind}
use Rattle.top_call.specs.Words.{Form, Names, names_of}
use Rattle.top_call.specs.Outcomes.{name_of}
use Rattle.top_call.specs.Reached.{AreEarlierAccepted, HasText, IfObservable, text_at}
use Rattle.top_call.specs.Reached.{IsSkyFault, IsCatalogueFault, IsSourcesFault, IsScriptFault, IsLong}
use Rattle.top_call.specs.Journals.{IsJournalFault}
use Rattle.top_call.specs.Jobs.{EndsFit, HasDemoEnds, IsJobOf, Job, Writes}
use Rattle.top_call.specs.declared.outcome.Which.{Which}
use Rattle.top_call.specs.declared.outcome.Which.TheVariants.{Sky, Catalogue, Sources, Script, Journal}
use Rattle.top_call.specs.declared.outcome.Outcome.{Outcome}
use Rattle.top_call.specs.declared.outcome.Outcome.TheVariants.{Done, Usage, BadSky, BadCatalogue, BadSources, BadScript}
use Rattle.top_call.specs.declared.outcome.Outcome.TheVariants.{TooLong, ShelfFault, SinkFault, Memory, BadJournal}

-- The states of shelf and sink before and after the call.
pub record Shown : Type 0 where
  pub shelf_old : ShelfState
  pub shelf_new : ShelfState
  pub sink_old : SinkState
  pub sink_new : SinkState

-- the shelf before and after, and the sink before and after
abbrev pub shown : (shelf_old shelf_new : ShelfState) → (sink_old sink_new : SinkState) → Shown
shown shelf_old shelf_new sink_old sink_new =
    record { shelf_old = shelf_old; shelf_new = shelf_new; sink_old = sink_old; sink_new = sink_new }

-- the sink was not touched
abbrev pub IsUntouched : Shown → Type 0
IsUntouched shown = shown.sink_new ≡ shown.sink_old

-- no fetch has failed, and the shelf is as it was
abbrev pub AllFetched : Shown → Type 0
AllFetched shown = shown.shelf_new ≡ shown.shelf_old

-- All was written and sent, and nothing has failed: exactly a text that the job of the command may write with these ends.
pub record IsDone (form : Form) (shown : Shown) (ends : List EndKind) : Type 0 where
  pub job : Job
  pub asked : IsJobOf form shown.shelf_old.texts job
  pub fetched : AllFetched shown
  pub fits : EndsFit job ends
  pub demo : HasDemoEnds form ends
  pub text : List ℕ
  pub writes : Writes job ends text
  pub written : Appended shown.sink_old.written text shown.sink_new.written
  pub calm : shown.sink_new.faults ≡ shown.sink_old.faults
  pub sent : shown.sink_new.held ≡ false

-- The sink failed: its count of faults rose, and a prefix of such a text was written.
pub record IsSinkFault (form : Form) (shown : Shown) (ends : List EndKind) : Type 0 where
  pub job : Job
  pub asked : IsJobOf form shown.shelf_old.texts job
  pub fetched : AllFetched shown
  pub fits : EndsFit job ends
  pub demo : HasDemoEnds form ends
  pub text : List ℕ
  pub writes : Writes job ends text
  pub written : AppendedPart shown.sink_old.written text shown.sink_new.written
  pub cause : Rose shown.sink_old.faults shown.sink_new.faults

-- A text is refused, for a reason that holds of it. It was reached: each earlier text is accepted, and no fetch has
-- failed. Nothing was written.
pub record IsRefused (names : Names) (shown : Shown) (which : Which) (Why : List ℕ → Type 0) : Type 0 where
  pub has : HasText names which
  pub earlier : IfObservable shown.shelf_old.texts (λ texts. AreEarlierAccepted names texts which)
  pub why : IfObservable shown.shelf_old.texts (λ texts. Why (text_at names texts which))
  pub fetched : AllFetched shown
  pub untouched : IsUntouched shown

-- The shelf failed at a text: the count of that very name rose and no other's, and each earlier text is accepted.
pub record IsShelfFault (names : Names) (shown : Shown) (which : Which) : Type 0 where
  pub has : HasText names which
  pub earlier : IfObservable shown.shelf_old.texts (λ texts. AreEarlierAccepted names texts which)
  pub grew : GrewBy (name_of names which) shown.shelf_old.failed shown.shelf_new.failed
  pub cause :
      times (name_of names which) shown.shelf_old.failed < times (name_of names which) shown.shelf_new.failed
  pub untouched : IsUntouched shown

-- the meaning of an outcome that results from the texts alone, for a command with these names
abbrev pub IsStop : Names → Shown → Outcome → Type 0
IsStop names shown (Done ends) = ⊥
IsStop names shown Usage = ⊥
IsStop names shown (BadSky fault) = IsRefused names shown Sky (λ text. IsSkyFault text fault)
IsStop names shown (BadCatalogue fault) = IsRefused names shown Catalogue (λ text. IsCatalogueFault text fault)
IsStop names shown (BadSources fault) = IsRefused names shown Sources (λ text. IsSourcesFault text fault)
IsStop names shown (BadScript fault) = IsRefused names shown Script (λ text. IsScriptFault text fault)
IsStop names shown (TooLong which) = IsRefused names shown which (IsLong which)
IsStop names shown (ShelfFault which) = IsShelfFault names shown which
IsStop names shown (SinkFault ends) = ⊥
IsStop names shown Memory = AllFetched shown × IsUntouched shown
IsStop names shown (BadJournal fault) = IsRefused names shown Journal (λ text. IsJournalFault text fault)

-- the meaning of an outcome for a command
abbrev pub ExplainedOf : Form → Shown → Outcome → Type 0
ExplainedOf form shown (Done ends) = IsDone form shown ends
ExplainedOf form shown (SinkFault ends) = IsSinkFault form shown ends
ExplainedOf form shown outcome = IsStop (names_of form) shown outcome

-- the meaning of an outcome: if the arguments are no command it is Usage, and neither shelf nor sink was touched
abbrev pub Explained : Option Form → Shown → Outcome → Type 0
Explained None shown outcome =
    (outcome ≡ Usage) × (shown.shelf_new ≡ shown.shelf_old) × IsUntouched shown
Explained (Some form) shown outcome = ExplainedOf form shown outcome
