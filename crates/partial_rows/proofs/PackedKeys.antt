-- Lists that are packed into keys, and read back from the sorted keys.
use Rattle.std.proofs.Common.{◌≡◌, ℕ, List, ◌++◌, append-nil, map, length, take, drop, sym, ap, subst, ◌∙◌, arith, IsPermutation}
use Rattle.std.proofs.lemmas.List.{drop_all, take_all}
use Rattle.std.proofs.lemmas.List.Sorted.{IsPermutation-map, IsPermutation-trans, length_permutation}

-- what is read back from the sorted keys are the elements in another order
pub arranged : {X : Type 0} (f : ℕ → X) (keys sorted : List ℕ) (xs new : List X) → map f keys ≡ xs → IsPermutation keys sorted → new ≡ map f sorted → IsPermutation xs new
arranged f keys sorted xs new h p e = subst (λ ys. IsPermutation ys new) h (subst (IsPermutation (map f keys)) (sym e) (IsPermutation-map f keys sorted p))

-- a list whose elements are put in another order in its place, and are then sorted
pub sorted_again : {X : Type 0} (given old mid new : List X) (n : ℕ) → n ≡ length old → given ≡ old → IsPermutation given mid → IsPermutation (take n (mid ++ drop (length mid) old)) new → IsPermutation old new
sorted_again given old mid new n is e p h =
    let moved : IsPermutation old mid = subst (λ l. IsPermutation l mid) e p in
    let same : length mid ≡ length old = length_permutation old mid moved in
    let whole : take n (mid ++ drop (length mid) old) ≡ mid =
    ap (λ l. take n (mid ++ l)) (drop_all (length mid) old (omega (arith, same)))
    ∙ (ap (take n) (append-nil mid) ∙ take_all n mid (omega (arith, is, same)))
    in
    IsPermutation-trans old mid new moved (subst (λ l. IsPermutation l new) whole h)
