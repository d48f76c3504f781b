-- Ascending lists grow at their end, by a number above the last.
use Rattle.std.proofs.Common.{◌≡◌, ℕ, ◌<◌, List, [], ◌∷◌, ◌++◌, length, AllPairs, All, Option, None, Some, arith, refl, sym, subst, get_or, ⊎_elim}
use Rattle.std.specs.Option.{IfSome}
use Rattle.std.specs.List.{last_or}
use Rattle.std.proofs.lemmas.Bool.{cases_eq}
use Rattle.std.proofs.lemmas.List.Quantifiers.{all_pairs_push}

-- the last element is the one at the last place
last_is : (o : Option ℕ) (x : ℕ) (xs : List ℕ) (d : ℕ) → last_or o (x ∷ xs) ≡ Some (get_or (x ∷ xs) (length xs) d)
last_is o x [] d = refl
last_is o x (y ∷ ys) d = last_is (Some x) y ys d

-- in an ascending list a number above the last is above all
pub below_last : (xs : List ℕ) (x : ℕ) → AllPairs (λ a b. a < b) xs → IfSome (last_or None xs) (λ last. last < x) → All (λ y. y < x) xs
below_last [] x pairs above k d within = absurd (omega (arith, within))
below_last (y ∷ ys) x pairs above k d within =
    let last : get_or (y ∷ ys) (length ys) d < x = subst (λ (o : Option ℕ). IfSome o (λ l. l < x)) (last_is None y ys d) above in
    ⊎_elim
    (λ e. subst (λ i. get_or (y ∷ ys) i d < x) (sym e) last)
    (λ ne. let before : get_or (y ∷ ys) k d < get_or (y ∷ ys) (length ys) d = pairs k (length ys) d (omega (arith, within, ne)) (omega arith) in omega (arith, before, last))
    (cases_eq k (length ys))

-- an ascending list stays so
pub ascending_push : (xs : List ℕ) (x : ℕ) → AllPairs (λ a b. a < b) xs → IfSome (last_or None xs) (λ last. last < x) → AllPairs (λ a b. a < b) (xs ++ x ∷ [])
ascending_push xs x pairs above = all_pairs_push (λ a b. a < b) xs x pairs (λ k d within. below_last xs x pairs above k d within)

-- a number above all is above the last
pub last_below : (xs : List ℕ) (x : ℕ) → All (λ y. y < x) xs → IfSome (last_or None xs) (λ last. last < x)
last_below [] x all = tt
last_below (y ∷ ys) x all = subst (λ (o : Option ℕ). IfSome o (λ l. l < x)) (sym (last_is None y ys 0)) (all (length ys) 0 (omega arith))
