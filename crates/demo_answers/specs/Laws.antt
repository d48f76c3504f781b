-- What holds of the demo's queries.
use Rattle.std.specs.Prelude.{◌≡◌, ℕ, ◌≤◌, All, None}
use Rattle.table_rules.specs.Objects.{Catalogue}
use Rattle.table_rules.specs.declared.limits.TheConstants.{ROWS_MOST}
use Rattle.session_script.specs.Views.{ScriptView, query_lines}
use Rattle.transcript_rules.specs.Refusals.{refusal_of}
use Rattle.demo_rules.specs.DemoRows.{IsDemoCatalogue}
use Rattle.demo_rules.specs.DemoTexts.{demo_script}
use Rattle.demo_answers.specs.DemoInput.{demo_plan, demo_steps}

-- the demo's script as it is read
abbrev pub demo_read : ScriptView
demo_read = record { text = demo_script; steps = demo_steps }

-- over the demo's sky and its catalogue of at most 2^22 rows, of any seed, none of the script's queries is refused: not
-- for its grammar, not for the schema, not for a radius, and not for a total out of range
abbrev pub DemoIsAnswered : Type 0
DemoIsAnswered =
    (count seed : ℕ) (c : Catalogue) → count ≤ ROWS_MOST → IsDemoCatalogue count seed c
    → All (λ text. refusal_of demo_plan c text ≡ None) (query_lines demo_read)
