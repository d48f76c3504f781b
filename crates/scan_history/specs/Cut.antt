-- How the next part of a line is read.
use Rattle.std.specs.Prelude.{◌≡◌, ℕ, List, [], ◌∷◌, Option, None, Some}

-- the first part has this value, and the others are left
pub record IfFirst (meaning : List ℕ → Option ℕ) (old new : List (List ℕ)) (number : ℕ) : Type 0 where
  pub part : List ℕ
  pub cut : old ≡ part ∷ new
  pub says : meaning part ≡ Some number

-- there is no part, or the first one has no value
abbrev pub IfNoFirst : (List ℕ → Option ℕ) → List (List ℕ) → Type 0
IfNoFirst meaning [] = Unit {0}
IfNoFirst meaning (part ∷ parts) = meaning part ≡ None
