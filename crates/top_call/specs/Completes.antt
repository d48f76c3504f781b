-- Which outcome of the top call must occur.
use Rattle.std.specs.Prelude.{◌≡◌, Option, None, Some}
use Rattle.sky_io.specs.Sinks.{Rose}
use Rattle.top_call.specs.Words.{Form, Load, Asks, AsksSources, Check, Demo, Names, names_of}
use Rattle.top_call.specs.Reached.{AreEarlierAccepted, HasText, IfObservable, IsAccepted, Texts, text_at}
use Rattle.top_call.specs.Reached.{AreAccepted, AreStill, AreAllStill}
use Rattle.top_call.specs.Explained.{Shown}
use Rattle.top_call.specs.declared.outcome.Which.{Which}
use Rattle.top_call.specs.declared.outcome.Which.TheVariants.{Sky, Catalogue, Sources, Script, Journal}
use Rattle.top_call.specs.declared.outcome.Outcome.{Outcome}
use Rattle.top_call.specs.declared.outcome.Outcome.TheVariants.{Done, BadSky, BadCatalogue, BadSources, BadScript, TooLong, Memory, BadJournal}

-- the outcome refuses this text, or is an allocation failure
abbrev pub IsRefusalOrMemory : Which → Outcome → Type 0
IsRefusalOrMemory which (BadSky fault) = which ≡ Sky
IsRefusalOrMemory which (BadCatalogue fault) = which ≡ Catalogue
IsRefusalOrMemory which (BadSources fault) = which ≡ Sources
IsRefusalOrMemory which (BadScript fault) = which ≡ Script
IsRefusalOrMemory which (TooLong named) = named ≡ which
IsRefusalOrMemory which (BadJournal fault) = which ≡ Journal
IsRefusalOrMemory which Memory = Unit {0}
IsRefusalOrMemory which _ = ⊥

-- the outcome is Done, or an allocation failure
abbrev pub IsDoneOrMemory : Outcome → Type 0
IsDoneOrMemory (Done ends) = Unit {0}
IsDoneOrMemory Memory = Unit {0}
IsDoneOrMemory _ = ⊥

-- Which outcome must occur over these texts, for a command with these names.
pub record Completes (names : Names) (shown : Shown) (outcome : Outcome) (texts : Texts) : Type 0 where
  -- a text that is reached and not accepted is refused
  pub refused :
      (which : Which) → HasText names which → AreEarlierAccepted names texts which →
      (IsAccepted which (text_at names texts which) → ⊥) →
      AreStill names shown.shelf_old.failed shown.shelf_new.failed which → IsRefusalOrMemory which outcome
  -- if all are accepted, and nothing has failed, the work is done
  pub done :
      AreAccepted names texts → AreAllStill names shown.shelf_old.failed shown.shelf_new.failed →
      (Rose shown.sink_old.faults shown.sink_new.faults → ⊥) → IsDoneOrMemory outcome

-- the outcome that must occur for a command occurs, if the shelf's texts are observable; a demo does not use the shelf
abbrev pub CompleteOf : Form → Shown → Outcome → Type 0
CompleteOf (Load sky catalogue) shown outcome =
    IfObservable shown.shelf_old.texts (Completes (names_of (Load sky catalogue)) shown outcome)
CompleteOf (Asks task sky catalogue script) shown outcome =
    IfObservable shown.shelf_old.texts (Completes (names_of (Asks task sky catalogue script)) shown outcome)
CompleteOf (AsksSources workers sky catalogue sources script) shown outcome =
    IfObservable shown.shelf_old.texts
    (Completes (names_of (AsksSources workers sky catalogue sources script)) shown outcome)
CompleteOf (Check journal) shown outcome =
    IfObservable shown.shelf_old.texts (Completes (names_of (Check journal)) shown outcome)
CompleteOf (Demo count seed workers) shown outcome =
    (texts : Texts) → Completes (names_of (Demo count seed workers)) shown outcome texts

-- the outcome that must occur occurs, if the arguments are a command
abbrev pub Complete : Option Form → Shown → Outcome → Type 0
Complete None shown outcome = Unit {0}
Complete (Some form) shown outcome = CompleteOf form shown outcome
