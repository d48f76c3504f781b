-- Which of the named texts is reached: they are fetched and validated one by one, sky, catalogue, sources, script; a journal
-- is the only text of its command.
use Rattle.std.specs.Prelude.{◌≡◌, ℕ, ◌≤◌, ◌<◌, List, length, Option, None, Some, IsSome, Ok, Err}
use Rattle.text_rules.specs.declared.limits.TheConstants.{SCRIPT_TEXT_MOST, SKY_TEXT_MOST, TEXT_MOST}
use Rattle.sky_io.specs.Shelves.{named_text, times}
use Rattle.sky_rules.specs.Partition.{Partition}
use Rattle.sky_rules.specs.SkyText.{sky_of}
use Rattle.sky_rules.specs.declared.fault.SkyFault.{SkyFault}
use Rattle.table_rules.specs.Objects.{Catalogue as Table}
use Rattle.table_rules.specs.declared.fault.LoadFault.{LoadFault}
use Rattle.source_rules.specs.Sources.{SourceTable}
use Rattle.source_load.specs.SourceText.{sources_of_text}
use Rattle.scan_rules.specs.declared.journal.Journal.{Journal as JournalView}
use Rattle.catalogue_load.specs.Catalogue.{catalogue_of}
use Rattle.session_script.specs.Scripts.{script_of}
use Rattle.session_script.specs.Views.{ScriptView}
use Rattle.session_script.specs.declared.fault.ScriptFault.{ScriptFault}
use Rattle.top_call.specs.Words.{Names}
use Rattle.top_call.specs.Outcomes.{name_at, name_of}
use Rattle.top_call.specs.Journals.{IsJournalOf}
use Rattle.top_call.specs.declared.outcome.Which.{Which}
use Rattle.top_call.specs.declared.outcome.Which.TheVariants.{Sky, Catalogue, Sources, Script, Journal}

-- the observable texts of a shelf, by their names
abbrev pub Texts : Type 0
Texts = List (List ℕ × List ℕ)

-- a fact of the texts, if the shelf's texts are observable
abbrev pub IfObservable : Option Texts → (Texts → Type 0) → Type 0
IfObservable None P = Unit {0}
IfObservable (Some texts) P = P texts

-- the text of a name of the command
abbrev pub text_at : Names → Texts → Which → List ℕ
text_at names texts which = named_text (name_of names which) texts

-- the greatest length of a text of its kind, in bytes
abbrev pub limit_of : Which → ℕ
limit_of Sky = SKY_TEXT_MOST
limit_of Catalogue = TEXT_MOST
limit_of Sources = TEXT_MOST
limit_of Script = SCRIPT_TEXT_MOST
limit_of Journal = TEXT_MOST

-- the text is longer than its limit
abbrev pub IsLong : Which → List ℕ → Type 0
IsLong which text = limit_of which < length text

-- the text is accepted as this plan of the sky
abbrev pub IsSkyOf : List ℕ → Partition → Type 0
IsSkyOf text plan = (length text ≤ SKY_TEXT_MOST) × (sky_of text ≡ Ok plan)

-- the text is within its limit, and has this first fault
abbrev pub IsSkyFault : List ℕ → SkyFault → Type 0
IsSkyFault text fault = (length text ≤ SKY_TEXT_MOST) × (sky_of text ≡ Err fault)

-- the text is accepted as this catalogue
abbrev pub IsCatalogueOf : List ℕ → Table → Type 0
IsCatalogueOf text table = (length text ≤ TEXT_MOST) × (catalogue_of text ≡ Ok table)

-- the text is within its limit, and has this first fault
abbrev pub IsCatalogueFault : List ℕ → LoadFault → Type 0
IsCatalogueFault text fault = (length text ≤ TEXT_MOST) × (catalogue_of text ≡ Err fault)

-- the text is accepted as this source table
abbrev pub IsSourcesOf : List ℕ → SourceTable → Type 0
IsSourcesOf text table = (length text ≤ TEXT_MOST) × (sources_of_text text ≡ Ok table)

-- the text is within its limit, and has this first fault
abbrev pub IsSourcesFault : List ℕ → LoadFault → Type 0
IsSourcesFault text fault = (length text ≤ TEXT_MOST) × (sources_of_text text ≡ Err fault)

-- The text is accepted as this script.
pub record IsScriptOf (text : List ℕ) (view : ScriptView) : Type 0 where
  pub short : length text ≤ SCRIPT_TEXT_MOST
  pub same : view.text ≡ text
  pub read : script_of text ≡ Ok view.steps

-- the text is within its limit, and has this first fault
abbrev pub IsScriptFault : List ℕ → ScriptFault → Type 0
IsScriptFault text fault = (length text ≤ SCRIPT_TEXT_MOST) × (script_of text ≡ Err fault)

-- the text is accepted
abbrev pub IsAccepted : Which → List ℕ → Type 0
IsAccepted Sky text = (plan : Partition) × IsSkyOf text plan
IsAccepted Catalogue text = (table : Table) × IsCatalogueOf text table
IsAccepted Sources text = (table : SourceTable) × IsSourcesOf text table
IsAccepted Script text = (view : ScriptView) × IsScriptOf text view
IsAccepted Journal text = (journal : JournalView) × IsJournalOf text journal

-- the command has the text
abbrev pub HasText : Names → Which → Type 0
HasText names which = IsSome (name_at names which)

-- the place of a text in the order in which the texts of a command are fetched; a journal is the only text of its command
abbrev pub place_of : Which → ℕ
place_of Sky = 0
place_of Catalogue = 1
place_of Sources = 2
place_of Script = 3
place_of Journal = 4

-- each text of the command that is fetched before this one is accepted
abbrev pub AreEarlierAccepted : Names → Texts → Which → Type 0
AreEarlierAccepted names texts which =
    (earlier : Which) → HasText names earlier → place_of earlier < place_of which
    → IsAccepted earlier (text_at names texts earlier)

-- each text of the command is accepted
abbrev pub AreAccepted : Names → Texts → Type 0
AreAccepted names texts = (which : Which) → HasText names which → IsAccepted which (text_at names texts which)

-- the count of a text's failures has not changed
abbrev pub IsStill : Names → List (List ℕ) → List (List ℕ) → Which → Type 0
IsStill names old new which = times (name_of names which) new ≡ times (name_of names which) old

-- neither this text's count of failures nor that of an earlier text of the command has changed
abbrev pub AreStill : Names → List (List ℕ) → List (List ℕ) → Which → Type 0
AreStill names old new which =
    (other : Which) → HasText names other → place_of other ≤ place_of which → IsStill names old new other

-- the count of no text's failures has risen
abbrev pub AreAllStill : Names → List (List ℕ) → List (List ℕ) → Type 0
AreAllStill names old new = (which : Which) → HasText names which → IsStill names old new which
