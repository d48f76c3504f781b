-- What the work on the demo's script comes to explains the outcome.
use Rattle.std.proofs.Common.{◌≡◌, ℕ, ◌≤◌, List, length, Ok, Err, refl, subst, ◌∙◌}
use Rattle.text_rules.specs.declared.limits.TheConstants.{SCRIPT_TEXT_MOST}
use Rattle.table_rules.specs.declared.limits.TheConstants.{ROWS_MOST}
use Rattle.sky_rules.specs.SkyText.{sky_of}
use Rattle.demo_rules.specs.DemoTexts.{demo_script, demo_sky}
use Rattle.demo_answers.specs.DemoInput.{demo_plan, demo_steps}
use Rattle.demo_answers.specs.Laws.{DemoIsAnswered}
use Rattle.session_script.specs.Scripts.{script_of}
use Rattle.session_script.specs.Views.{ScriptView}
use Rattle.session_script.specs.declared.fault.ScriptFault.{ScriptFault}
use Rattle.session_script.specs.declared.step.Step.{Step}
use Rattle.sky_io.specs.Shelves.{ShelfState}
use Rattle.sky_io.specs.Sinks.{SinkState}
use Rattle.chunk_store.specs.Survey.{Survey}
use Rattle.top_call.specs.Words.{Demo}
use Rattle.top_call.specs.Reached.{IsScriptOf}
use Rattle.top_call.specs.Jobs.{Runs, IsDemoSurvey, job_on}
use Rattle.top_call.specs.Explained.{ExplainedOf, shown}
use Rattle.top_call.specs.ScriptWork.{IsDemoOver, IsDemoWritten, IsTaskOver, IsWorkAsRead}
use Rattle.top_call.specs.declared.task.Task.TheVariants.{Answer}
use Rattle.top_call.specs.declared.outcome.Outcome.{Outcome}
use Rattle.top_call.specs.declared.outcome.Outcome.TheVariants.{Done, Usage, BadSky, BadCatalogue, BadSources, BadScript}
use Rattle.top_call.specs.declared.outcome.Outcome.TheVariants.{TooLong, ShelfFault, SinkFault, Memory, BadJournal}
use Rattle.top_call.proofs.DemoEnds.{demo_has_ends}
use Rattle.top_call.proofs.Writing.{job_explained}

-- What is read of a text that is the same is the script of this one.
same_script : (text named : List ℕ) (view : ScriptView) → text ≡ named → length named ≤ SCRIPT_TEXT_MOST
    → view.text ≡ text → script_of text ≡ Ok view.steps → IsScriptOf named view
same_script text named view is short same steps = record {
  short = short;
  same = same ∙ is;
  read = subst (λ t. script_of t ≡ Ok view.steps) is steps;
}

-- A text that is the same as a script is not refused.
not_refused : (text named : List ℕ) (steps : List Step) (fault : ScriptFault) → text ≡ named → script_of named ≡ Ok steps
    → script_of text ≡ Err fault → ⊥
not_refused text named steps fault is accepted refused =
    let read = subst (λ t. script_of t ≡ Err fault) is refused in absurd (cc (read, accepted))

-- What is read of the demo's script, and the writing of its job.
read_demo : (workers : ℕ) (survey : Survey) (text : List ℕ) (old new : SinkState) (outcome : Outcome) → text ≡ demo_script
    → length demo_script ≤ SCRIPT_TEXT_MOST → IsWorkAsRead (job_on (Answer workers) survey) text old new outcome
    → IsDemoWritten workers survey old new outcome
read_demo workers survey text old new outcome is short h = record {
  view = h.view;
  read = same_script text demo_script h.view is short h.same h.steps;
  work = h.work;
}

-- What the task of answering the demo's script comes to is what the work on it comes to.
pub demo_task : (workers : ℕ) (survey : Survey) (text : List ℕ) (old new : SinkState) (outcome : Outcome) → text ≡ demo_script
    → length demo_script ≤ SCRIPT_TEXT_MOST → script_of demo_script ≡ Ok demo_steps
    → IsTaskOver (Answer workers) survey text old new outcome → IsDemoOver workers survey old new outcome
demo_task workers survey text old new (Done ends) is short steps h = read_demo workers survey text old new (Done ends) is short h
demo_task workers survey text old new (SinkFault ends) is short steps h = read_demo workers survey text old new (SinkFault ends) is short h
demo_task workers survey text old new Usage is short steps h = absurd h.work
demo_task workers survey text old new (BadSky fault) is short steps h = absurd h.work
demo_task workers survey text old new (BadCatalogue fault) is short steps h = absurd h.work
demo_task workers survey text old new (BadSources fault) is short steps h = absurd h.work
demo_task workers survey text old new (BadScript fault) is short steps h = absurd (not_refused text demo_script demo_steps fault is steps h.0)
demo_task workers survey text old new (TooLong which) is short steps h = absurd h.work
demo_task workers survey text old new (ShelfFault which) is short steps h = absurd h.work
demo_task workers survey text old new Memory is short steps h = h
demo_task workers survey text old new (BadJournal fault) is short steps h = absurd h.work

-- What the work on the demo's script comes to explains the outcome, whatever the shelf.
pub demo_explained : DemoIsAnswered → sky_of demo_sky ≡ Ok demo_plan → script_of demo_script ≡ Ok demo_steps
    → (count seed workers : ℕ) → count ≤ ROWS_MOST → (survey : Survey) (old new : SinkState) (outcome : Outcome) (shelf : ShelfState)
    → IsDemoSurvey count seed survey → IsDemoOver workers survey old new outcome
    → ExplainedOf (Demo count seed workers) (shown shelf shelf old new) outcome
demo_explained law sky steps count seed workers few survey old new (Done ends) shelf is h =
    job_explained (Demo count seed workers) (Runs workers survey h.view) shelf shelf old new (Done ends)
    (survey, h.view, refl, is, h.read)
    (λ ended fits. demo_has_ends law sky steps count seed workers few survey h.view ended is h.read fits) refl h.work
demo_explained law sky steps count seed workers few survey old new (SinkFault ends) shelf is h =
    job_explained (Demo count seed workers) (Runs workers survey h.view) shelf shelf old new (SinkFault ends)
    (survey, h.view, refl, is, h.read)
    (λ ended fits. demo_has_ends law sky steps count seed workers few survey h.view ended is h.read fits) refl h.work
demo_explained law sky steps count seed workers few survey old new Usage shelf is h = absurd h.work
demo_explained law sky steps count seed workers few survey old new (BadSky fault) shelf is h = absurd h.work
demo_explained law sky steps count seed workers few survey old new (BadCatalogue fault) shelf is h = absurd h.work
demo_explained law sky steps count seed workers few survey old new (BadSources fault) shelf is h = absurd h.work
demo_explained law sky steps count seed workers few survey old new (BadScript fault) shelf is h = absurd h.work
demo_explained law sky steps count seed workers few survey old new (TooLong which) shelf is h = absurd h.work
demo_explained law sky steps count seed workers few survey old new (ShelfFault which) shelf is h = absurd h.work
demo_explained law sky steps count seed workers few survey old new (BadJournal fault) shelf is h = absurd h.work
demo_explained law sky steps count seed workers few survey old new Memory shelf is h = (refl, h)
