-- The remaining pieces of a text.
use Rattle.std.specs.Prelude.{ℕ, List, [], Option, None, Some}
use Rattle.text_rules.specs.Lines.{pieces}

-- the pieces of the rest of the text, and none after the last one was split off
abbrev pub left_of : ℕ → Option (List ℕ) → List (List ℕ)
left_of by None = []
left_of by (Some rest) = pieces by rest
