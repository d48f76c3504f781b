-- The positions at which the lines of a text begin.
use Rattle.std.specs.Prelude.{ℕ, ◌+◌, List, [], ◌∷◌, length, zip}
use Rattle.text_rules.specs.Lines.{Line, lines_of, pieces}

-- the positions of the parts between line feeds, if the first begins at the given one: each next part begins after the
-- part before it and a line feed
abbrev pub starts_from : ℕ → List (List ℕ) → List ℕ
starts_from place [] = []
starts_from place (part ∷ parts) = place ∷ starts_from (place + length part + 1) parts

-- the positions, from 0, at which the lines of a text begin
abbrev pub line_starts : List ℕ → List ℕ
line_starts text = starts_from 0 (pieces 10 text)

-- the lines of a text, each with the position of its first byte
abbrev pub placed_lines : List ℕ → List (ℕ × Line)
placed_lines text = zip (line_starts text) (lines_of text)
