-- Lists of faults: the first of several lists, and lists without a fault.
use Rattle.std.proofs.Common.{◌≡◌, refl, subst, ℕ, ◌+◌, ◌<◌, zero, suc, arith, Bool, true, false, List, [], ◌∷◌, ◌++◌, Ok}
use Rattle.std.specs.List.{flat_map, range_with_len}
use Rattle.table_rules.specs.declared.fault.LoadFault.{LoadFault}
use Rattle.text_rules.specs.Readings.{judged}
use Rattle.table_rules.specs.Records.{unless}

abbrev pub Faults : Type 0
Faults = List LoadFault

-- what was judged had no fault
pub judged_ok : {A : Type 0} (faults : Faults) (found a : A) → judged faults found ≡ Ok a → (faults ≡ []) × (found ≡ a)
judged_ok {A} [] found a h = (refl, cc h)
judged_ok {A} (f ∷ later) found a h = absurd (cc h)

-- of two lists that have no fault together neither has one
pub none_of_both : (xs ys : Faults) → xs ++ ys ≡ [] → (xs ≡ []) × (ys ≡ [])
none_of_both [] ys h = (refl, h)
none_of_both (x ∷ xs) ys h = absurd (cc h)

-- where there is no fault it is right
pub right_unless : (right : Bool) (f : LoadFault) → unless right f ≡ [] → right ≡ true
right_unless true f h = refl
right_unless false f h = absurd (cc h)

-- a list of lists that has no fault has none at any place
pub none_at : (of : ℕ → Faults) (a n i : ℕ) → flat_map of (range_with_len a n) ≡ [] → i < n → of (a + i) ≡ []
none_at of a zero i h low = absurd (omega arith)
none_at of a (suc n) zero h low = subst (λ k. of k ≡ []) (omega arith) (none_of_both (of a) (flat_map of (range_with_len (a + 1) n)) h).0
none_at of a (suc n) (suc i) h low =
    let e : a + 1 + i ≡ a + suc i = omega arith in
    subst (λ k. of k ≡ []) e (none_at of (a + 1) n i (none_of_both (of a) (flat_map of (range_with_len (a + 1) n)) h).1 (omega arith))

-- the same of the places from 0 on
pub none_in : (of : ℕ → Faults) (n i : ℕ) → flat_map of (range_with_len 0 n) ≡ [] → i < n → of i ≡ []
none_in of n i h low = let e : 0 + i ≡ i = omega arith in subst (λ k. of k ≡ []) e (none_at of 0 n i h low)
