-- The command that the arguments give, as the program represents it.
use Rattle.std.specs.Prelude.{◌≤◌}
use Rattle.table_rules.specs.declared.limits.TheConstants.{ROWS_MOST}
use Rattle.demo_rules.specs.declared.limits.TheConstants.{SEED_MOST}
use Rattle.top_call.specs.Words.{Form as Asked, Load, Asks, AsksSources, Check, Demo, IsManned}
use Rattle.session_rules.specs.declared.limits.TheConstants.{WORKERS_MOST}
use Rattle.top_call.specs.declared.words.Form.{Form}
use Rattle.top_call.specs.declared.words.Form.TheVariants as form

-- the command, with its names as lists of bytes
abbrev pub asked_by : Form → Asked
asked_by (form.Load sky catalogue) = Load sky.now catalogue.now
asked_by (form.Asks task names) = Asks task names.sky.now names.catalogue.now names.script.now
asked_by (form.AsksSources workers names) =
    AsksSources workers names.sky.now names.catalogue.now names.sources.now names.script.now
asked_by (form.Check journal) = Check journal.now
asked_by (form.Demo count seed workers) = Demo count seed workers

-- the numbers of the command are within their limits: those of a demo's rows, and the number of workers
abbrev pub IsWithin : Form → Type 0
IsWithin (form.Load sky catalogue) = Unit {0}
IsWithin (form.Asks task names) = IsManned task
IsWithin (form.AsksSources workers names) = workers ≤ WORKERS_MOST
IsWithin (form.Check journal) = Unit {0}
IsWithin (form.Demo count seed workers) =
    (count ≤ ROWS_MOST) × (1 ≤ seed) × (seed ≤ SEED_MOST) × (workers ≤ WORKERS_MOST)
