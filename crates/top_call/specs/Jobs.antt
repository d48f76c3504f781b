-- The jobs of a command, and what is written for them.
use Rattle.std.specs.Prelude.{◌≡◌, ℕ, List, [], All, Option, Ok}
use Rattle.sky_io.specs.Shelves.{named_text}
use Rattle.sky_rules.specs.SkyText.{sky_of}
use Rattle.demo_rules.specs.DemoRows.{IsDemoCatalogue}
use Rattle.demo_rules.specs.DemoTexts.{demo_script, demo_sky}
use Rattle.chunk_store.specs.Survey.{Survey}
use Rattle.scan_rules.specs.declared.journal.Journal.{Journal}
use Rattle.scan_history.specs.Checked.{tally_of}
use Rattle.scan_history.specs.Printed.{journal_text}
use Rattle.answer_text.specs.Report.{report}
use Rattle.session_script.specs.Views.{ScriptView}
use Rattle.session_rules.specs.declared.end.EndKind.{EndKind}
use Rattle.session_rules.specs.declared.end.EndKind.TheVariants.{Answered, Refused, Cancelled, Spent}
use Rattle.transcript_rules.specs.Transcripts.{FitEnds, transcript}
use Rattle.transcript_rules.specs.Explained.{explained}
use Rattle.czar.specs.Traces.{IsTraceOf}
use Rattle.source_rules.specs.Sources.{SourceTable}
use Rattle.child_transcripts.specs.ChildTranscripts.{ChildFitEnds, child_transcript}
use Rattle.child_session.specs.ChildSurvey.{ChildSurvey}
use Rattle.top_call.specs.Words.{Form, Load, Asks, AsksSources, Check, Demo}
use Rattle.top_call.specs.Journals.{IsChecked, IsJournalOf, tally_line}
use Rattle.top_call.specs.Reached.{IfObservable, IsCatalogueOf, IsScriptOf, IsSkyOf, IsSourcesOf, Texts}
use Rattle.top_call.specs.declared.task.Task.{Task}
use Rattle.top_call.specs.declared.task.Task.TheVariants.{Answer, ByClass, Trace, Explain}

-- A job.
pub data Job : Type 0 where
  -- to report how the rows of a survey are distributed over its chunks
  Reports : Survey → Job
  -- to answer the queries of a script over a survey, with the given number of workers
  Runs : (workers : ℕ) → Survey → ScriptView → Job
  -- to answer them so, and to write the journal of the session
  Traces : (workers : ℕ) → Survey → ScriptView → Job
  -- to answer the queries of a script over objects and their sources, with the given number of workers
  RunsChildren : (workers : ℕ) → ChildSurvey → ScriptView → Job
  -- to explain the queries of a script over a survey
  Explains : Survey → ScriptView → Job
  -- to report how much a journal contains, which is right
  Checks : Journal → Job

-- The text is that of a journal which a session with these ends may leave.
pub record IsTraceText (workers : ℕ) (survey : Survey) (view : ScriptView) (ends : List EndKind) (text : List ℕ)
    : Type 0 where
  pub journal : Journal
  pub trace : IsTraceOf workers survey.plan survey.rows view ends journal
  pub is : text ≡ journal_text journal

-- the job may write this text if its queries have these ends
abbrev pub Writes : Job → List EndKind → List ℕ → Type 0
Writes (Reports survey) ends text = text ≡ report survey.plan survey.rows.objects
Writes (Runs workers survey view) ends text = text ≡ transcript survey.plan survey.rows view ends
Writes (Traces workers survey view) ends text = IsTraceText workers survey view ends text
Writes (RunsChildren workers tables view) ends text =
    text ≡ child_transcript tables.plan tables.rows tables.table view ends
Writes (Explains survey view) ends text = text ≡ explained survey.plan survey.rows view
Writes (Checks journal) ends text = text ≡ tally_line (tally_of journal.lines)

-- the queries of the job may end so, with its workers; a job that runs none has no ends
abbrev pub EndsFit : Job → List EndKind → Type 0
EndsFit (Reports survey) ends = ends ≡ []
EndsFit (Runs workers survey view) ends = FitEnds workers survey.plan survey.rows view ends
EndsFit (Traces workers survey view) ends = FitEnds workers survey.plan survey.rows view ends
EndsFit (RunsChildren workers tables view) ends = ChildFitEnds workers tables.plan tables.rows tables.table view ends
EndsFit (Explains survey view) ends = ends ≡ []
EndsFit (Checks journal) ends = ends ≡ []

-- the query was answered, or ended as out of memory
abbrev pub IsAnsweredOrSpent : EndKind → Type 0
IsAnsweredOrSpent Answered = Unit {0}
IsAnsweredOrSpent Refused = ⊥
IsAnsweredOrSpent Cancelled = ⊥
IsAnsweredOrSpent Spent = Unit {0}

-- no query of a demo is refused, and none is cancelled
abbrev pub HasDemoEnds : Form → List EndKind → Type 0
HasDemoEnds (Load sky catalogue) ends = Unit {0}
HasDemoEnds (Asks task sky catalogue script) ends = Unit {0}
HasDemoEnds (AsksSources workers sky catalogue sources script) ends = Unit {0}
HasDemoEnds (Check journal) ends = Unit {0}
HasDemoEnds (Demo count seed workers) ends = All IsAnsweredOrSpent ends

-- the named sky plan and catalogue are accepted as this survey
abbrev pub IsSurveyOf : (sky catalogue : List ℕ) → Survey → Texts → Type 0
IsSurveyOf sky catalogue survey texts =
    IsSkyOf (named_text sky texts) survey.plan × IsCatalogueOf (named_text catalogue texts) survey.rows

-- the named texts are accepted as this survey and this script
abbrev pub AreSurveyAndScript : (sky catalogue script : List ℕ) → Survey → ScriptView → Texts → Type 0
AreSurveyAndScript sky catalogue script survey view texts =
    IsSurveyOf sky catalogue survey texts × IsScriptOf (named_text script texts) view

-- the plan of a survey's sky, its catalogue and a source table
abbrev pub tables_of : Survey → SourceTable → ChildSurvey
tables_of survey table = record { plan = survey.plan; rows = survey.rows; table = table }

-- the named sky plan, catalogue and source table are accepted as these
abbrev pub AreTablesOf : (sky catalogue sources : List ℕ) → ChildSurvey → Texts → Type 0
AreTablesOf sky catalogue sources tables texts =
    IsSkyOf (named_text sky texts) tables.plan × IsCatalogueOf (named_text catalogue texts) tables.rows
    × IsSourcesOf (named_text sources texts) tables.table

-- the named texts are accepted as these and this script
abbrev pub AreTablesAndScript : (sky catalogue sources script : List ℕ) → ChildSurvey → ScriptView → Texts → Type 0
AreTablesAndScript sky catalogue sources script tables view texts =
    AreTablesOf sky catalogue sources tables texts × IsScriptOf (named_text script texts) view

-- the job of a task on a script over a survey
abbrev pub job_on : Task → Survey → ScriptView → Job
job_on (Answer workers) survey view = Runs workers survey view
job_on (ByClass workers) survey view = Runs workers survey view
job_on (Trace workers) survey view = Traces workers survey view
job_on Explain survey view = Explains survey view

-- the survey is the demo's: its sky plan, and the given number of objects that are drawn from a seed
abbrev pub IsDemoSurvey : ℕ → ℕ → Survey → Type 0
IsDemoSurvey count seed survey = (sky_of demo_sky ≡ Ok survey.plan) × IsDemoCatalogue count seed survey.rows

-- This is the job of the command, if the shelf's texts are observable; the demo uses none of them.
abbrev pub IsJobOf : Form → Option Texts → Job → Type 0
IsJobOf (Load sky catalogue) visible job =
    (survey : Survey) × (job ≡ Reports survey) × IfObservable visible (IsSurveyOf sky catalogue survey)
IsJobOf (Asks task sky catalogue script) visible job =
    (survey : Survey) × (view : ScriptView) × (job ≡ job_on task survey view)
    × IfObservable visible (AreSurveyAndScript sky catalogue script survey view)
IsJobOf (AsksSources workers sky catalogue sources script) visible job =
    (tables : ChildSurvey) × (view : ScriptView) × (job ≡ RunsChildren workers tables view)
    × IfObservable visible (AreTablesAndScript sky catalogue sources script tables view)
IsJobOf (Check name) visible job =
    (journal : Journal) × (job ≡ Checks journal) × IsChecked journal
    × IfObservable visible (λ texts. IsJournalOf (named_text name texts) journal)
IsJobOf (Demo count seed workers) visible job =
    (survey : Survey) × (view : ScriptView) × (job ≡ Runs workers survey view) × IsDemoSurvey count seed survey
    × IsScriptOf demo_script view
