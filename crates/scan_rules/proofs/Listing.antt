-- The numbers below a bound that pass a test, one number more at a time.
use Rattle.std.proofs.Common.{◌≡◌, ℕ, ◌+◌, ◌≤◌, [], ◌∷◌, ◌++◌, length, Bool, true, false, cond, zero, suc, refl, ap, subst, arith, filter, length-append}
use Rattle.std.proofs.lemmas.List.Elements.{filter-append}
use Rattle.scan_rules.specs.Numbers.{below}

-- below 0 there is none
pub none_kept : (p : ℕ → Bool) → filter p (below 0) ≡ []
unfolding below
none_kept p = refl

kept_suc : (p : ℕ → Bool) (n : ℕ) → filter p (below (suc n)) ≡ filter p (below n) ++ cond (p n) (n ∷ []) []
unfolding below
kept_suc p n = filter-append p (below n) (n ∷ [])

-- the next number comes last, if it passes
pub one_kept : (p : ℕ → Bool) (n : ℕ) → filter p (below (n + 1)) ≡ filter p (below n) ++ cond (p n) (n ∷ []) []
one_kept p n = subst (λ m. filter p (below m) ≡ filter p (below n) ++ cond (p n) (n ∷ []) []) (let e : suc n ≡ n + 1 = omega arith in e) (kept_suc p n)

at_most_one : (b : Bool) (n : ℕ) → length (cond b (n ∷ []) []) ≤ 1
at_most_one true n = omega arith
at_most_one false n = omega arith

-- no more pass than there are
pub few_kept : (p : ℕ → Bool) (n : ℕ) → length (filter p (below n)) ≤ n
few_kept p zero = let e : length (filter p (below 0)) ≡ 0 = ap length (none_kept p) in omega (arith, e)
few_kept p (suc n) =
    let e : length (filter p (below (suc n))) ≡ length (filter p (below n) ++ cond (p n) (n ∷ []) []) = ap length (kept_suc p n) in
    omega (arith, e, length-append (filter p (below n)) (cond (p n) (n ∷ []) []), few_kept p n, at_most_one (p n) n)
