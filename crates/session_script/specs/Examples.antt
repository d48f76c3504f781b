-- Texts of worked examples, and their steps.
use Rattle.std.specs.Prelude.{ℕ, List, [], ◌∷◌, ◌++◌, codes}
use Rattle.sql_token.specs.declared.token.Span.{Span}
use Rattle.session_script.specs.declared.step.Step.{Step}
use Rattle.session_script.specs.declared.step.Step.TheVariants as step

-- the bytes between two positions
abbrev pub span : (from to : ℕ) → Span
span from to = record { from = from; to = to }

-- three queries, a cancel and a wait
abbrev pub five_lines : List ℕ
five_lines =
    codes "SELECT objectId FROM Object\nSELECT COUNT(*) FROM Object\nSELECT MAX(flux) FROM Object\n"
    ++ codes "cancel 2\nwait 1\n"

-- the steps of the five lines
abbrev pub five_steps : List Step
five_steps =
    step.Query 1 (span 0 27)
    ∷ step.Query 2 (span 28 55)
    ∷ step.Query 3 (span 56 84)
    ∷ step.Cancel 2
    ∷ step.Wait 1
    ∷ []
