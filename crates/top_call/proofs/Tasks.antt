-- The outcome of the work on a script explains the outcome of the command, if the texts are those that the shelf gave.
use Rattle.std.proofs.Common.{◌≡◌, ℕ, ◌≤◌, List, length, Option, None, Some, Ok, refl, sym, subst, inl, inr}
use Rattle.text_rules.specs.declared.limits.TheConstants.{SCRIPT_TEXT_MOST}
use Rattle.sky_io.specs.Shelves.{ShelfState}
use Rattle.sky_io.specs.Sinks.{SinkState}
use Rattle.chunk_store.specs.Survey.{Survey}
use Rattle.session_script.specs.Scripts.{script_of}
use Rattle.session_script.specs.Views.{ScriptView}
use Rattle.session_rules.specs.declared.end.EndKind.{EndKind}
use Rattle.child_session.specs.ChildSurvey.{ChildSurvey}
use Rattle.top_call.specs.Words.{Form, Asks, AsksSources, names_from, names_of}
use Rattle.top_call.specs.Outcomes.{name_of}
use Rattle.top_call.specs.Reached.{HasText, IfObservable, IsScriptFault, IsScriptOf, Texts}
use Rattle.top_call.specs.Jobs.{AreTablesOf, EndsFit, HasDemoEnds, IsJobOf, IsSurveyOf, Job, RunsChildren, job_on}
use Rattle.top_call.specs.Explained.{ExplainedOf, IsStop, Shown, shown}
use Rattle.top_call.specs.Steps.{AreGiven, IsRead, IsWhole, OfNamed}
use Rattle.top_call.specs.ScriptWork.{IsScriptRun, IsTaskOver, IsWorkOver}
use Rattle.top_call.specs.declared.task.Task.{Task}
use Rattle.top_call.specs.declared.outcome.Which.TheVariants.{Script}
use Rattle.top_call.specs.declared.outcome.Outcome.{Outcome}
use Rattle.top_call.specs.declared.outcome.Outcome.TheVariants.{Done, Usage, BadSky, BadCatalogue, BadSources, BadScript}
use Rattle.top_call.specs.declared.outcome.Outcome.TheVariants.{TooLong, ShelfFault, SinkFault, Memory, BadJournal}
use Rattle.top_call.proofs.Stops.{EarlierAccepted, script_earlier, tables_earlier, whole_stop}
use Rattle.top_call.proofs.Writing.{job_explained}

-- A stop that comes of the texts alone explains the outcome of each form with their names.
pub stop_explained : (form : Form) (s : Shown) (outcome : Outcome) → IsStop (names_of form) s outcome → ExplainedOf form s outcome
stop_explained form s (Done ends) h = absurd h
stop_explained form s Usage h = h
stop_explained form s (BadSky fault) h = h
stop_explained form s (BadCatalogue fault) h = h
stop_explained form s (BadSources fault) h = h
stop_explained form s (BadScript fault) h = h
stop_explained form s (TooLong which) h = h
stop_explained form s (ShelfFault which) h = h
stop_explained form s (SinkFault ends) h = absurd h
stop_explained form s Memory h = h
stop_explained form s (BadJournal fault) h = h

-- what holds of a text holds of the named one, if they are the same
of_named : (name text : List ℕ) (Holds : List ℕ → Type 0) (visible : Option Texts)
    → IfObservable visible (OfNamed name (λ whole. whole ≡ text)) → Holds text → IfObservable visible (OfNamed name Holds)
of_named name text Holds None is h = tt
of_named name text Holds (Some texts) is h = subst Holds (sym is) h

-- the named script is this one, if its text is read as it
script_named : (name text : List ℕ) (view : ScriptView) (visible : Option Texts)
    → IfObservable visible (OfNamed name (λ whole. whole ≡ text)) → length text ≤ SCRIPT_TEXT_MOST → view.text ≡ text
    → script_of text ≡ Ok view.steps → IfObservable visible (OfNamed name (λ named. IsScriptOf named view))
script_named name text view visible is short same steps =
    of_named name text (λ named. IsScriptOf named view) visible is (record { short = short; same = same; read = steps })

-- The outcome of the work on the text of a command's script explains that of the command, if each script that this text is
-- read as gives the job of the command.
pub work_explained : (form : Form) (job : ScriptView → Job) (text : List ℕ) (old new : ShelfState) (before now : SinkState)
    (outcome : Outcome) → HasText (names_of form) Script → EarlierAccepted (names_of form) Script old.texts
    → ((view : ScriptView) → IfObservable old.texts (OfNamed (name_of (names_of form) Script) (λ named. IsScriptOf named view))
    → IsJobOf form old.texts (job view))
    → ((view : ScriptView) (ends : List EndKind) → EndsFit (job view) ends → HasDemoEnds form ends)
    → IsWhole (name_of (names_of form) Script) Script text old new → IsWorkOver job text before now outcome
    → ExplainedOf form (shown old new before now) outcome
work_explained form job text old new before now (Done ends) has earlier asked reported whole h =
    job_explained form (job h.view) old new before now (Done ends)
    (asked h.view (script_named (name_of (names_of form) Script) text h.view old.texts whole.read.holds whole.short h.same h.steps))
    (reported h.view) whole.read.same h.work
work_explained form job text old new before now (SinkFault ends) has earlier asked reported whole h =
    job_explained form (job h.view) old new before now (SinkFault ends)
    (asked h.view (script_named (name_of (names_of form) Script) text h.view old.texts whole.read.holds whole.short h.same h.steps))
    (reported h.view) whole.read.same h.work
work_explained form job text old new before now Usage has earlier asked reported whole h = absurd h.work
work_explained form job text old new before now (BadSky fault) has earlier asked reported whole h = absurd h.work
work_explained form job text old new before now (BadCatalogue fault) has earlier asked reported whole h = absurd h.work
work_explained form job text old new before now (BadSources fault) has earlier asked reported whole h = absurd h.work
work_explained form job text old new before now (BadScript fault) has earlier asked reported whole h = record {
  has = has;
  earlier = earlier;
  why = of_named (name_of (names_of form) Script) text (λ named. IsScriptFault named fault) old.texts whole.read.holds
      (whole.short, h.0);
  fetched = whole.read.same;
  untouched = h.1;
}
work_explained form job text old new before now (TooLong which) has earlier asked reported whole h = absurd h.work
work_explained form job text old new before now (ShelfFault which) has earlier asked reported whole h = absurd h.work
work_explained form job text old new before now Memory has earlier asked reported whole h = (whole.read.same, h)
work_explained form job text old new before now (BadJournal fault) has earlier asked reported whole h = absurd h.work

-- ---- facts of the texts, if they are observable

both_observable : (visible : Option Texts) (P Q : Texts → Type 0) → IfObservable visible P → IfObservable visible Q
    → IfObservable visible (λ texts. P texts × Q texts)
both_observable None P Q h k = tt
both_observable (Some texts) P Q h k = (h, k)

first_observable : (visible : Option Texts) (P Q : Texts → Type 0) → IfObservable visible (λ texts. P texts × Q texts)
    → IfObservable visible P
first_observable None P Q h = tt
first_observable (Some texts) P Q h = h.0

second_observable : (visible : Option Texts) (P Q : Texts → Type 0) → IfObservable visible (λ texts. P texts × Q texts)
    → IfObservable visible Q
second_observable None P Q h = tt
second_observable (Some texts) P Q h = h.1

-- ---- a task on a script over a survey

-- the outcome of the work on the given script explains the outcome
task_explained : (task : Task) (sky catalogue script : List ℕ) (survey : Survey) (text : List ℕ) (old new : ShelfState)
    (before now : SinkState) (outcome : Outcome) → AreGiven sky catalogue script survey text old new
    → IsTaskOver task survey text before now outcome
    → ExplainedOf (Asks task sky catalogue script) (shown old new before now) outcome
task_explained task sky catalogue script survey text old new before now outcome given h =
    let read : IfObservable old.texts (IsSurveyOf sky catalogue survey) =
    first_observable old.texts (IsSurveyOf sky catalogue survey) (OfNamed script (λ whole. whole ≡ text)) given.read.holds in
    work_explained (Asks task sky catalogue script) (job_on task survey) text old new before now outcome refl
    (script_earlier sky catalogue script survey old.texts read)
    (λ view is. (
      survey,
      view,
      refl,
      both_observable old.texts (IsSurveyOf sky catalogue survey) (OfNamed script (λ named. IsScriptOf named view)) read is,
    ))
    (λ view ends fits. tt)
    (record {
      short = given.short;
      read = record {
        same = given.read.same;
        holds = second_observable old.texts (IsSurveyOf sky catalogue survey) (OfNamed script (λ whole. whole ≡ text))
            given.read.holds;
      };
    })
    h

-- ---- a script over objects and their sources

tables_explained : (workers : ℕ) (sky catalogue sources script : List ℕ) (tables : ChildSurvey) (old new : ShelfState)
    (before now : SinkState) (outcome : Outcome) → IfObservable old.texts (AreTablesOf sky catalogue sources tables)
    → IsScriptRun (RunsChildren workers tables) script old new before now outcome
    → ExplainedOf (AsksSources workers sky catalogue sources script) (shown old new before now) outcome
tables_explained workers sky catalogue sources script tables old new before now outcome are (inl stop) =
    subst (λ sink. ExplainedOf (AsksSources workers sky catalogue sources script) (shown old new before sink) outcome) (sym stop.1)
    (stop_explained (AsksSources workers sky catalogue sources script) (shown old new before before) outcome
    (whole_stop (names_from sky catalogue (Some sources) (Some script)) Script old new outcome refl
    (tables_earlier sky catalogue sources script tables old.texts are) stop.0 before))
tables_explained workers sky catalogue sources script tables old new before now outcome are (inr run) =
    work_explained (AsksSources workers sky catalogue sources script) (RunsChildren workers tables) run.text old new before now
    outcome refl (tables_earlier sky catalogue sources script tables old.texts are)
    (λ view is. (
      tables,
      view,
      refl,
      both_observable old.texts (AreTablesOf sky catalogue sources tables) (OfNamed script (λ named. IsScriptOf named view)) are is,
    ))
    (λ view ends fits. tt) run.given run.work

-- The outcome of the fetch of a script and of the work on it explains the outcome, if the tables were read before it.
pub sources_explained : (workers : ℕ) (sky catalogue sources script : List ℕ) (tables : ChildSurvey)
    (old mid new : ShelfState) (before now : SinkState) (outcome : Outcome)
    → IsRead (AreTablesOf sky catalogue sources tables) old mid
    → IsScriptRun (RunsChildren workers tables) script mid new before now outcome
    → ExplainedOf (AsksSources workers sky catalogue sources script) (shown old new before now) outcome
sources_explained workers sky catalogue sources script tables old mid new before now outcome read run =
    tables_explained workers sky catalogue sources script tables old new before now outcome read.holds
    (subst (λ (s : ShelfState). IsScriptRun (RunsChildren workers tables) script s new before now outcome) read.same run)

-- ---- a slice that is the text

-- The outcome of the work on a slice that is the given script explains the outcome.
pub slice_explained : (task : Task) (sky catalogue script : List ℕ) (survey : Survey) (text slice : List ℕ) (old new : ShelfState)
    (before now : SinkState) (outcome : Outcome) → AreGiven sky catalogue script survey text old new → slice ≡ text
    → IsTaskOver task survey slice before now outcome
    → ExplainedOf (Asks task sky catalogue script) (shown old new before now) outcome
slice_explained task sky catalogue script survey text slice old new before now outcome given same h =
    task_explained task sky catalogue script survey text old new before now outcome given
    (subst (λ t. IsTaskOver task survey t before now outcome) same h)

-- The outcome of the work on a slice that is the given script is that of the fetch and of the work.
pub script_run : (job : ScriptView → Job) (name text slice : List ℕ) (old new : ShelfState) (before now : SinkState)
    (outcome : Outcome) → IsWhole name Script text old new → slice ≡ text → IsWorkOver job slice before now outcome
    → IsScriptRun job name old new before now outcome
script_run job name text slice old new before now outcome given same h =
    inr (record { text = text; given = given; work = subst (λ t. IsWorkOver job t before now outcome) same h })
