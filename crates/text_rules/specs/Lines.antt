-- The lines of a text, its pieces between separators, and which lines are comment lines.
use Rattle.std.specs.Prelude.{ℕ, ◌+◌, ◌==◌, Bool, false, ◌||◌, List, [], ◌∷◌}
use Rattle.std.specs.List.{list_all, slice_split}
use Rattle.std.specs.Str.Lines.{lines}

-- A line: its number, from 1, and its text without the end of the line.
pub record Line : Type 0 where
  pub number : ℕ
  pub text : List ℕ

-- the lines of these texts, numbered from n
abbrev pub numbered : ℕ → List (List ℕ) → List Line
numbered n [] = []
numbered n (text ∷ rest) = record { number = n; text = text } ∷ numbered (n + 1) rest

-- the lines of a text, numbered from 1: a line feed ends a line, and one carriage return before it is dropped; the last
-- line may lack its line feed, and then keeps a carriage return; an empty rest is no line
abbrev pub lines_of : List ℕ → List Line
lines_of bs = numbered 1 (lines bs)

-- the pieces of a text between the bytes b: there is one piece more than there are such bytes, and a piece may be empty
abbrev pub pieces : ℕ → List ℕ → List (List ℕ)
pieces b bs = slice_split (λ x. x == b) bs

-- a byte is a space or a tab
abbrev pub is_space_or_tab : ℕ → Bool
is_space_or_tab b = (b == 32) || (b == 9)

-- the text begins with #
abbrev pub begins_with_hash : List ℕ → Bool
begins_with_hash [] = false
begins_with_hash (b ∷ bs) = b == 35

-- the line is a comment line and is skipped: it is spaces and tabs alone, or its first byte is #
abbrev pub is_note : List ℕ → Bool
is_note text = list_all is_space_or_tab text || begins_with_hash text
