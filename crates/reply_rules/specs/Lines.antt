-- Which lines of a text begin with `+`.
use Rattle.std.specs.Prelude.{◌≡◌, ℕ, ◌==◌, Bool, true, false, List, [], ◌∷◌, ◌++◌}
use Rattle.std.specs.List.{list_any}
use Rattle.request_loop.specs.Requests.{lines_in}

-- the line begins with `+`
abbrev pub begins_with_plus : List ℕ → Bool
begins_with_plus [] = false
begins_with_plus (b ∷ bs) = b == 43

-- no line of the text begins with `+`
abbrev pub HasNoPlusLine : List ℕ → Type 0
HasNoPlusLine text = list_any begins_with_plus (lines_in text) ≡ false

-- the text is whole lines: whatever follows it begins a line
abbrev pub IsWholeLines : List ℕ → Type 0
IsWholeLines text = (later : List ℕ) → lines_in (text ++ later) ≡ lines_in text ++ lines_in later

-- The text is whole lines, of which the last begins with `+`, and no other does.
pub record EndsAtPlus (text : List ℕ) : Type 0 where
  pub before : List (List ℕ)
  pub last : List ℕ
  pub whole : IsWholeLines text
  pub are : lines_in text ≡ before ++ last ∷ []
  pub others : list_any begins_with_plus before ≡ false
  pub plus : begins_with_plus last ≡ true
