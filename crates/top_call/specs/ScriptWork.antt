-- The meaning of the work on a script: it is read, and its job is written.
use Rattle.std.specs.Prelude.{◌≡◌, ◌⊎◌, ℕ, List, Ok, Err}
use Rattle.sky_io.specs.Shelves.{ShelfState}
use Rattle.sky_io.specs.Sinks.{SinkState}
use Rattle.demo_rules.specs.DemoTexts.{demo_script}
use Rattle.chunk_store.specs.Survey.{Survey}
use Rattle.session_script.specs.Scripts.{script_of}
use Rattle.session_script.specs.Views.{ScriptView}
use Rattle.top_call.specs.Words.{Demo}
use Rattle.top_call.specs.Reached.{IsScriptOf}
use Rattle.top_call.specs.Jobs.{Job, Runs, job_on}
use Rattle.top_call.specs.Explained.{ExplainedOf, shown}
use Rattle.top_call.specs.Steps.{IsWhole, IsWholeStop, IsWritten}
use Rattle.top_call.specs.declared.task.Task.{Task}
use Rattle.top_call.specs.declared.outcome.Which.TheVariants.{Script}
use Rattle.top_call.specs.declared.outcome.Outcome.{Outcome}
use Rattle.top_call.specs.declared.outcome.Outcome.TheVariants.{BadScript, Memory}

-- The text is read as a script, and the outcome is that of the writing of its job.
pub record IsWorkAsRead (job : ScriptView → Job) (text : List ℕ) (old new : SinkState) (outcome : Outcome) : Type 0 where
  pub view : ScriptView
  pub same : view.text ≡ text
  pub steps : script_of text ≡ Ok view.steps
  pub work : IsWritten (job view) old new outcome

-- the outcome of the work on the text of a script: the text has a fault, or it is read and worked on
abbrev pub IsWorkOver : (ScriptView → Job) → List ℕ → SinkState → SinkState → Outcome → Type 0
IsWorkOver job text old new (BadScript fault) = (script_of text ≡ Err fault) × (new ≡ old)
IsWorkOver job text old new Memory = new ≡ old
IsWorkOver job text old new outcome = IsWorkAsRead job text old new outcome

-- the outcome of a task on the text of a script over a survey
abbrev pub IsTaskOver : Task → Survey → List ℕ → SinkState → SinkState → Outcome → Type 0
IsTaskOver task survey text old new outcome = IsWorkOver (job_on task survey) text old new outcome

-- The script of this name was given, and the outcome is that of the work on it.
pub record IsScriptWork (job : ScriptView → Job) (name : List ℕ) (old new : ShelfState) (before now : SinkState)
    (outcome : Outcome) : Type 0 where
  pub text : List ℕ
  pub given : IsWhole name Script text old new
  pub work : IsWorkOver job text before now outcome

-- the outcome of the fetch of a script and of the work on it: the script was not given, and nothing was written; or it was
-- given and worked on
abbrev pub IsScriptRun : (ScriptView → Job) → List ℕ → (old new : ShelfState) → (before now : SinkState) → Outcome → Type 0
IsScriptRun job name old new before now outcome =
    (IsWholeStop name Script old new outcome × (now ≡ before)) ⊎ IsScriptWork job name old new before now outcome

-- The outcome is that of the writing of the job on the demo's script over a survey.
pub record IsDemoWritten (workers : ℕ) (survey : Survey) (old new : SinkState) (outcome : Outcome) : Type 0 where
  pub view : ScriptView
  pub read : IsScriptOf demo_script view
  pub work : IsWritten (Runs workers survey view) old new outcome

-- the outcome of the work on the demo's script over a survey
abbrev pub IsDemoOver : (workers : ℕ) → Survey → SinkState → SinkState → Outcome → Type 0
IsDemoOver workers survey old new Memory = new ≡ old
IsDemoOver workers survey old new outcome = IsDemoWritten workers survey old new outcome

-- whatever the shelf, the outcome is that of the demo, and the shelf is as it was
abbrev pub IsDemo : (count seed workers : ℕ) → SinkState → SinkState → Outcome → Type 0
IsDemo count seed workers old new outcome =
    (shelf : ShelfState) → ExplainedOf (Demo count seed workers) (shown shelf shelf old new) outcome
