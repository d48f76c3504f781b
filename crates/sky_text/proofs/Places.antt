-- The first place in a text at which a test passes.
use Rattle.std.proofs.Common.{◌≡◌, ℕ, ◌<◌, ◌≤◌, Bool, List, [], ◌∷◌, length, None, Some, arith, refl}
use Rattle.std.specs.List.{position, position_or_len, slice_split}

-- a place that is found is the first one, and lies within the text
pub first_place : (p : ℕ → Bool) (text : List ℕ) (at : ℕ) → position p text ≡ Some at
    → (at ≡ position_or_len p text) × (position_or_len p text < length text)
first_place p text at h = grind arith

-- where none is found, the test passes nowhere
pub no_place : (p : ℕ → Bool) (text : List ℕ) → position p text ≡ None → length text ≤ position_or_len p text
no_place p text h = grind arith

-- and the text is one part
pub none_passes : (p : ℕ → Bool) (text : List ℕ) → length text ≤ position_or_len p text → slice_split p text ≡ text ∷ []
none_passes p [] h = refl
none_passes p (x ∷ xs) h = grind (arith, none_passes p xs)
