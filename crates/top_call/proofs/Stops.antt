-- Why a text was not given or not read explains the outcome of each command that has it.
use Rattle.std.proofs.Common.{ℕ, ◌<◌, List, Option, None, Some, refl, sym, subst, arith}
use Rattle.sky_io.specs.Shelves.{ShelfState, named_text}
use Rattle.sky_io.specs.Sinks.{SinkState}
use Rattle.chunk_store.specs.Survey.{Survey}
use Rattle.sky_rules.specs.Partition.{Partition}
use Rattle.child_session.specs.ChildSurvey.{ChildSurvey}
use Rattle.top_call.specs.Words.{Names, names_from}
use Rattle.top_call.specs.Outcomes.{name_of}
use Rattle.top_call.specs.Reached.{AreEarlierAccepted, HasText, IfObservable, IsAccepted, IsLong, IsSkyOf, Texts, place_of, text_at}
use Rattle.top_call.specs.Reached.{IsSkyFault, IsCatalogueFault, IsSourcesFault}
use Rattle.top_call.specs.Jobs.{AreTablesOf, IsSurveyOf}
use Rattle.top_call.specs.Explained.{IsRefused, IsShelfFault, shown}
use Rattle.top_call.specs.Steps.{HasFailed, IsCatalogueStop, IsRead, IsShelfStop, IsSkyStop, IsSourcesStop, IsWholeStop, OfNamed}
use Rattle.top_call.specs.declared.outcome.Which.{Which}
use Rattle.top_call.specs.declared.outcome.Which.TheVariants.{Sky, Catalogue, Sources, Script, Journal}
use Rattle.top_call.specs.declared.outcome.Outcome.{Outcome}
use Rattle.top_call.specs.declared.outcome.Outcome.TheVariants.{Done, Usage, BadSky, BadCatalogue, BadSources, BadScript}
use Rattle.top_call.specs.declared.outcome.Outcome.TheVariants.{TooLong, ShelfFault, SinkFault, Memory, BadJournal}

-- the earlier texts of a command are accepted, if they are observable
abbrev pub EarlierAccepted : Names → Which → Option Texts → Type 0
EarlierAccepted names which visible = IfObservable visible (λ texts. AreEarlierAccepted names texts which)

-- A text of this name that is refused is a refusal of it in each command that has it.
refused_text : (names : Names) (which : Which) (Why : List ℕ → Type 0) (old new : ShelfState) (sink : SinkState)
    → HasText names which → EarlierAccepted names which old.texts → IsRead (OfNamed (name_of names which) Why) old new
    → IsRefused names (shown old new sink sink) which Why
refused_text names which Why old new sink has earlier why =
    record { has = has; earlier = earlier; why = why.holds; fetched = why.same; untouched = refl }

-- A text of this name whose fetch has failed is a fault of the shelf in each command that has it.
failed_text : (names : Names) (which : Which) (old new : ShelfState) (sink : SinkState) → HasText names which
    → EarlierAccepted names which old.texts → HasFailed (name_of names which) old new
    → IsShelfFault names (shown old new sink sink) which
failed_text names which old new sink has earlier failed =
    record { has = has; earlier = earlier; grew = failed.grew; cause = failed.cause; untouched = refl }

-- The reason for which the whole of a text was not given explains the outcome.
pub whole_stop : (names : Names) (which : Which) (old new : ShelfState) (outcome : Outcome) → HasText names which
    → EarlierAccepted names which old.texts → IsWholeStop (name_of names which) which old new outcome
    → IsShelfStop names old new outcome
whole_stop names which old new (Done ends) has earlier h = λ sink. absurd h
whole_stop names which old new Usage has earlier h = λ sink. absurd h
whole_stop names which old new (BadSky fault) has earlier h = λ sink. absurd h
whole_stop names which old new (BadCatalogue fault) has earlier h = λ sink. absurd h
whole_stop names which old new (BadSources fault) has earlier h = λ sink. absurd h
whole_stop names which old new (BadScript fault) has earlier h = λ sink. absurd h
whole_stop names which old new (TooLong named) has earlier h = λ sink.
    subst (λ w. IsRefused names (shown old new sink sink) w (IsLong w)) (sym h.0)
    (refused_text names which (IsLong which) old new sink has earlier h.1)
whole_stop names which old new (ShelfFault named) has earlier h = λ sink.
    subst (λ w. IsShelfFault names (shown old new sink sink) w) (sym h.0) (failed_text names which old new sink has earlier h.1)
whole_stop names which old new (SinkFault ends) has earlier h = λ sink. absurd h
whole_stop names which old new Memory has earlier h = λ sink. (h, refl)
whole_stop names which old new (BadJournal fault) has earlier h = λ sink. absurd h

-- ---- the sky plan, before which no text is fetched

none_before : (names : Names) (texts : Texts) (earlier : Which) → HasText names earlier → place_of earlier < place_of Sky
    → IsAccepted earlier (text_at names texts earlier)
none_before names texts earlier has low = absurd (omega (arith, low))

none_earlier : (names : Names) (visible : Option Texts) → EarlierAccepted names Sky visible
none_earlier names None = tt
none_earlier names (Some texts) = none_before names texts

-- The reason for which a sky plan was not read explains the outcome.
pub sky_stop : (sky catalogue : List ℕ) (sources script : Option (List ℕ)) (old new : ShelfState) (outcome : Outcome)
    → IsSkyStop sky old new outcome → IsShelfStop (names_from sky catalogue sources script) old new outcome
sky_stop sky catalogue sources script old new (BadSky fault) h = λ sink.
    refused_text (names_from sky catalogue sources script) Sky (λ text. IsSkyFault text fault) old new sink refl
    (none_earlier (names_from sky catalogue sources script) old.texts) h
sky_stop sky catalogue sources script old new (Done ends) h = λ sink. absurd h
sky_stop sky catalogue sources script old new Usage h = λ sink. absurd h
sky_stop sky catalogue sources script old new (BadCatalogue fault) h = λ sink. absurd h
sky_stop sky catalogue sources script old new (BadSources fault) h = λ sink. absurd h
sky_stop sky catalogue sources script old new (BadScript fault) h = λ sink. absurd h
sky_stop sky catalogue sources script old new (TooLong named) h =
    whole_stop (names_from sky catalogue sources script) Sky old new (TooLong named) refl
    (none_earlier (names_from sky catalogue sources script) old.texts) h
sky_stop sky catalogue sources script old new (ShelfFault named) h =
    whole_stop (names_from sky catalogue sources script) Sky old new (ShelfFault named) refl
    (none_earlier (names_from sky catalogue sources script) old.texts) h
sky_stop sky catalogue sources script old new (SinkFault ends) h = λ sink. absurd h
sky_stop sky catalogue sources script old new Memory h = λ sink. (h, refl)
sky_stop sky catalogue sources script old new (BadJournal fault) h = λ sink. absurd h

-- ---- the catalogue, before which the sky plan is fetched

before_catalogue : (sky catalogue : List ℕ) (sources script : Option (List ℕ)) (plan : Partition) (texts : Texts)
    → IsSkyOf (named_text sky texts) plan → (earlier : Which) → HasText (names_from sky catalogue sources script) earlier
    → place_of earlier < place_of Catalogue
    → IsAccepted earlier (text_at (names_from sky catalogue sources script) texts earlier)
before_catalogue sky catalogue sources script plan texts is Sky has low = (plan, is)
before_catalogue sky catalogue sources script plan texts is Catalogue has low = absurd (omega (arith, low))
before_catalogue sky catalogue sources script plan texts is Sources has low = absurd (omega (arith, low))
before_catalogue sky catalogue sources script plan texts is Script has low = absurd (omega (arith, low))
before_catalogue sky catalogue sources script plan texts is Journal has low = absurd (omega (arith, low))

sky_earlier : (sky catalogue : List ℕ) (sources script : Option (List ℕ)) (plan : Partition) (visible : Option Texts)
    → IfObservable visible (OfNamed sky (λ text. IsSkyOf text plan))
    → EarlierAccepted (names_from sky catalogue sources script) Catalogue visible
sky_earlier sky catalogue sources script plan None h = tt
sky_earlier sky catalogue sources script plan (Some texts) h = before_catalogue sky catalogue sources script plan texts h

catalogue_by : (sky catalogue : List ℕ) (sources script : Option (List ℕ)) (old new : ShelfState) (outcome : Outcome)
    → EarlierAccepted (names_from sky catalogue sources script) Catalogue old.texts
    → IsCatalogueStop catalogue old new outcome → IsShelfStop (names_from sky catalogue sources script) old new outcome
catalogue_by sky catalogue sources script old new (BadCatalogue fault) earlier h = λ sink.
    refused_text (names_from sky catalogue sources script) Catalogue (λ text. IsCatalogueFault text fault) old new sink refl
    earlier h
catalogue_by sky catalogue sources script old new (Done ends) earlier h = λ sink. absurd h
catalogue_by sky catalogue sources script old new Usage earlier h = λ sink. absurd h
catalogue_by sky catalogue sources script old new (BadSky fault) earlier h = λ sink. absurd h
catalogue_by sky catalogue sources script old new (BadSources fault) earlier h = λ sink. absurd h
catalogue_by sky catalogue sources script old new (BadScript fault) earlier h = λ sink. absurd h
catalogue_by sky catalogue sources script old new (TooLong named) earlier h =
    whole_stop (names_from sky catalogue sources script) Catalogue old new (TooLong named) refl earlier h
catalogue_by sky catalogue sources script old new (ShelfFault named) earlier h =
    whole_stop (names_from sky catalogue sources script) Catalogue old new (ShelfFault named) refl earlier h
catalogue_by sky catalogue sources script old new (SinkFault ends) earlier h = λ sink. absurd h
catalogue_by sky catalogue sources script old new Memory earlier h = λ sink. (h, refl)
catalogue_by sky catalogue sources script old new (BadJournal fault) earlier h = λ sink. absurd h

-- The reason for which a catalogue was not read explains the outcome, if the sky plan was read before it.
pub catalogue_stop : (sky catalogue : List ℕ) (sources script : Option (List ℕ)) (plan : Partition)
    (old mid new : ShelfState) (outcome : Outcome) → IsRead (OfNamed sky (λ text. IsSkyOf text plan)) old mid
    → IsCatalogueStop catalogue mid new outcome → IsShelfStop (names_from sky catalogue sources script) old new outcome
catalogue_stop sky catalogue sources script plan old mid new outcome read stop =
    catalogue_by sky catalogue sources script old new outcome
    (sky_earlier sky catalogue sources script plan old.texts read.holds)
    (subst (λ (s : ShelfState). IsCatalogueStop catalogue s new outcome) read.same stop)

-- ---- the source table, before which a survey is read

before_sources : (sky catalogue : List ℕ) (sources script : Option (List ℕ)) (survey : Survey) (texts : Texts)
    → IsSurveyOf sky catalogue survey texts → (earlier : Which)
    → HasText (names_from sky catalogue sources script) earlier → place_of earlier < place_of Sources
    → IsAccepted earlier (text_at (names_from sky catalogue sources script) texts earlier)
before_sources sky catalogue sources script survey texts is Sky has low = (survey.plan, is.0)
before_sources sky catalogue sources script survey texts is Catalogue has low = (survey.rows, is.1)
before_sources sky catalogue sources script survey texts is Sources has low = absurd (omega (arith, low))
before_sources sky catalogue sources script survey texts is Script has low = absurd (omega (arith, low))
before_sources sky catalogue sources script survey texts is Journal has low = absurd (omega (arith, low))

survey_earlier : (sky catalogue : List ℕ) (sources script : Option (List ℕ)) (survey : Survey) (visible : Option Texts)
    → IfObservable visible (IsSurveyOf sky catalogue survey)
    → EarlierAccepted (names_from sky catalogue sources script) Sources visible
survey_earlier sky catalogue sources script survey None h = tt
survey_earlier sky catalogue sources script survey (Some texts) h = before_sources sky catalogue sources script survey texts h

sources_by : (sky catalogue sources : List ℕ) (script : Option (List ℕ)) (old new : ShelfState) (outcome : Outcome)
    → EarlierAccepted (names_from sky catalogue (Some sources) script) Sources old.texts
    → IsSourcesStop sources old new outcome → IsShelfStop (names_from sky catalogue (Some sources) script) old new outcome
sources_by sky catalogue sources script old new (BadSources fault) earlier h = λ sink.
    refused_text (names_from sky catalogue (Some sources) script) Sources (λ text. IsSourcesFault text fault) old new sink refl
    earlier h
sources_by sky catalogue sources script old new (Done ends) earlier h = λ sink. absurd h
sources_by sky catalogue sources script old new Usage earlier h = λ sink. absurd h
sources_by sky catalogue sources script old new (BadSky fault) earlier h = λ sink. absurd h
sources_by sky catalogue sources script old new (BadCatalogue fault) earlier h = λ sink. absurd h
sources_by sky catalogue sources script old new (BadScript fault) earlier h = λ sink. absurd h
sources_by sky catalogue sources script old new (TooLong named) earlier h =
    whole_stop (names_from sky catalogue (Some sources) script) Sources old new (TooLong named) refl earlier h
sources_by sky catalogue sources script old new (ShelfFault named) earlier h =
    whole_stop (names_from sky catalogue (Some sources) script) Sources old new (ShelfFault named) refl earlier h
sources_by sky catalogue sources script old new (SinkFault ends) earlier h = λ sink. absurd h
sources_by sky catalogue sources script old new Memory earlier h = λ sink. (h, refl)
sources_by sky catalogue sources script old new (BadJournal fault) earlier h = λ sink. absurd h

-- The reason for which a source table was not read explains the outcome, if the survey was read before it.
pub sources_stop : (sky catalogue sources : List ℕ) (script : Option (List ℕ)) (survey : Survey)
    (old mid new : ShelfState) (outcome : Outcome) → IsRead (IsSurveyOf sky catalogue survey) old mid
    → IsSourcesStop sources mid new outcome → IsShelfStop (names_from sky catalogue (Some sources) script) old new outcome
sources_stop sky catalogue sources script survey old mid new outcome read stop =
    sources_by sky catalogue sources script old new outcome
    (survey_earlier sky catalogue (Some sources) script survey old.texts read.holds)
    (subst (λ (s : ShelfState). IsSourcesStop sources s new outcome) read.same stop)

-- ---- a script, before which a survey is read, and a source table if the command has one

before_script : (sky catalogue script : List ℕ) (survey : Survey) (texts : Texts) → IsSurveyOf sky catalogue survey texts
    → (earlier : Which) → HasText (names_from sky catalogue None (Some script)) earlier → place_of earlier < place_of Script
    → IsAccepted earlier (text_at (names_from sky catalogue None (Some script)) texts earlier)
before_script sky catalogue script survey texts is Sky has low = (survey.plan, is.0)
before_script sky catalogue script survey texts is Catalogue has low = (survey.rows, is.1)
before_script sky catalogue script survey texts is Sources has low = absurd (cc has)
before_script sky catalogue script survey texts is Script has low = absurd (omega (arith, low))
before_script sky catalogue script survey texts is Journal has low = absurd (omega (arith, low))

-- The texts before a script are accepted, if they are observable and the survey is theirs.
pub script_earlier : (sky catalogue script : List ℕ) (survey : Survey) (visible : Option Texts)
    → IfObservable visible (IsSurveyOf sky catalogue survey)
    → EarlierAccepted (names_from sky catalogue None (Some script)) Script visible
script_earlier sky catalogue script survey None h = tt
script_earlier sky catalogue script survey (Some texts) h = before_script sky catalogue script survey texts h

-- The reason for which a script was not given explains the outcome, if the survey was read before it.
pub script_stop : (sky catalogue script : List ℕ) (survey : Survey) (old mid new : ShelfState) (outcome : Outcome)
    → IsRead (IsSurveyOf sky catalogue survey) old mid → IsWholeStop script Script mid new outcome
    → IsShelfStop (names_from sky catalogue None (Some script)) old new outcome
script_stop sky catalogue script survey old mid new outcome read stop =
    whole_stop (names_from sky catalogue None (Some script)) Script old new outcome refl
    (script_earlier sky catalogue script survey old.texts read.holds)
    (subst (λ (s : ShelfState). IsWholeStop script Script s new outcome) read.same stop)

after_sources : (sky catalogue sources script : List ℕ) (tables : ChildSurvey) (texts : Texts)
    → AreTablesOf sky catalogue sources tables texts → (earlier : Which)
    → HasText (names_from sky catalogue (Some sources) (Some script)) earlier → place_of earlier < place_of Script
    → IsAccepted earlier (text_at (names_from sky catalogue (Some sources) (Some script)) texts earlier)
after_sources sky catalogue sources script tables texts are Sky has low = (tables.plan, are.0)
after_sources sky catalogue sources script tables texts are Catalogue has low = (tables.rows, are.1)
after_sources sky catalogue sources script tables texts are Sources has low = (tables.table, are.2)
after_sources sky catalogue sources script tables texts are Script has low = absurd (omega (arith, low))
after_sources sky catalogue sources script tables texts are Journal has low = absurd (omega (arith, low))

-- The texts before a script over objects and their sources are accepted, if they are observable and the tables are theirs.
pub tables_earlier : (sky catalogue sources script : List ℕ) (tables : ChildSurvey) (visible : Option Texts)
    → IfObservable visible (AreTablesOf sky catalogue sources tables)
    → EarlierAccepted (names_from sky catalogue (Some sources) (Some script)) Script visible
tables_earlier sky catalogue sources script tables None h = tt
tables_earlier sky catalogue sources script tables (Some texts) h = after_sources sky catalogue sources script tables texts h
