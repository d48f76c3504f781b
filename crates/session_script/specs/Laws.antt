-- Facts about the steps of every script, and about the positions of every text's lines.
use Rattle.std.specs.Prelude.{◌≡◌, ⊤, ℕ, ◌+◌, ◌<◌, ◌≤◌, List, [], ◌∷◌, Some, length, slice_get, slice_range}
use Rattle.text_rules.specs.Lines.{Line}
use Rattle.session_script.specs.declared.step.Step.{Step}
use Rattle.session_script.specs.declared.step.Step.TheVariants as step
use Rattle.session_script.specs.Scripts.{query_count, query_text}
use Rattle.session_script.specs.Views.{ScriptView, query_lines}

-- the number is that of one of the given number of queries
abbrev pub IsQuery : ℕ → ℕ → Type 0
IsQuery queries n = (1 ≤ n) × (n ≤ queries)

-- after the given number of queries, the steps number the next ones in order, and wait for and cancel earlier ones
-- alone
abbrev pub NumberedFrom : ℕ → List Step → Type 0
NumberedFrom queries [] = ⊤
NumberedFrom queries (step.Query n span ∷ ss) = (n ≡ queries + 1) × NumberedFrom (queries + 1) ss
NumberedFrom queries (step.Wait n ∷ ss) = IsQuery queries n × NumberedFrom queries ss
NumberedFrom queries (step.Cancel n ∷ ss) = IsQuery queries n × NumberedFrom queries ss

-- the line's bytes are in the text at its position
abbrev pub StandsAt : List ℕ → ℕ × Line → Type 0
StandsAt text l = slice_range text l.0 (l.0 + length l.1.text) ≡ l.1.text

-- the lines of the queries are their texts, one by one
abbrev pub LinesAreTexts : Type 0
LinesAreTexts = (s : ScriptView) (i : ℕ) → i < query_count s.steps
    → slice_get (query_lines s) i ≡ Some (query_text s.steps s.text (i + 1))
