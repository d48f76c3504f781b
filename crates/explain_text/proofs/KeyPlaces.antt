-- The place of a key, by the search for it.
use Rattle.std.proofs.Common.{◌≡◌, ℕ, ◌≤◌, Bool, true, false, List, length, None, Some, cond, ltb, refl, ap, sym, arith}
use Rattle.std.specs.Prelude.{unwrap_or}
use Rattle.std.specs.List.{position, position_or_len}
use Rattle.std.proofs.lemmas.Bool.{ltb-false}
use Rattle.std.proofs.lemmas.List.Sums.{prefix_len-le-length}
use Rattle.std.proofs.lemmas.Option.{none-some}

found_by : (p place : ℕ) (b : Bool) → cond b (Some p) None ≡ Some place → p ≡ place
found_by p place true is = ap (λ o. unwrap_or o 0) is
found_by p place false is = absurd (none-some place is)

-- a place that is found is the first
pub found_place : {X : Type 0} (test : X → Bool) (xs : List X) (place : ℕ) → position test xs ≡ Some place → position_or_len test xs ≡ place
found_place test xs place is = found_by (position_or_len test xs) place (ltb (position_or_len test xs) (length xs)) is

none_by : (p n : ℕ) (b : Bool) → ltb p n ≡ b → cond b (Some p) None ≡ None → p ≤ n → p ≡ n
none_by p n true e is within = absurd (none-some p (sym is))
none_by p n false e is within =
    let past : n ≤ p = ltb-false p n e in
    omega (arith, past, within)

-- where none is found, it is how many there are
pub none_place : {X : Type 0} (test : X → Bool) (xs : List X) → position test xs ≡ None → position_or_len test xs ≡ length xs
none_place test xs is =
    none_by (position_or_len test xs) (length xs) (ltb (position_or_len test xs) (length xs)) refl is (prefix_len-le-length _ xs)

-- it is at most how many there are
pub place_within : {X : Type 0} (test : X → Bool) (xs : List X) → position_or_len test xs ≤ length xs
place_within test xs = prefix_len-le-length _ xs
