-- The numbers of a range, and those of them that pass a test.
use Rattle.std.proofs.Common.{◌≡◌, ℕ, zero, suc, ◌+◌, ◌<◌, ◌≤◌, arith, refl, ap, subst, ◌∙◌, Bool, true, false, cond, List, [], ◌∷◌, inl, inr}
use Rattle.std.specs.Prelude.{All, AllPairs}
use Rattle.std.specs.List.{Contains, filter, range_with_len}
use Rattle.std.proofs.lemmas.Bool.{cases_lt}
use Rattle.std.proofs.lemmas.List.Elements.{Contains-append_right}
use Rattle.std.proofs.lemmas.List.FromFn.{get_or-range_with_len, length-range_with_len}

-- the numbers of a range are below its end
pub range_below : (n : ℕ) → All (λ c. c < n) (range_with_len 0 n)
range_below n k d within =
    let long = length-range_with_len 0 n in
    let at = get_or-range_with_len 0 n k d (omega (arith, long, within)) in omega (arith, long, within, at)

-- and they ascend
pub range_ascends : (n : ℕ) → AllPairs (λ a b. a < b) (range_with_len 0 n)
range_ascends n i j d less within =
    let long = length-range_with_len 0 n in
    let low = get_or-range_with_len 0 n i d (omega (arith, long, within, less)) in
    let high = get_or-range_with_len 0 n j d (omega (arith, long, within)) in omega (arith, less, low, high)

-- a number behind another one
behind : (a : ℕ) (rest : List ℕ) (c : ℕ) (b : Bool) → Contains rest c → Contains (cond b (a ∷ rest) rest) c
behind a rest c true h = Contains-append_right (a ∷ []) rest c h
behind a rest c false h = h

-- the first number of a range, where it passes
first_listed : (p : ℕ → Bool) (a n : ℕ) → p a ≡ true → Contains (filter p (range_with_len a (suc n))) a
first_listed p a n h = rw h (0, omega arith, refl)

-- a number of a range from a that passes is among those that do
listed_from : (p : ℕ → Bool) (a n c : ℕ) → a ≤ c → c < a + n → p c ≡ true → Contains (filter p (range_with_len a n)) c
listed_from p a zero c low high h = absurd (omega (arith, low, high))
listed_from p a (suc n) c low high h = elim (cases_lt a c) [
  | inl above ↦ behind a (filter p (range_with_len (a + 1) n)) c (p a) (listed_from p (a + 1) n c (omega (arith, above)) (omega (arith, high)) h)
  | inr below ↦
      let same : a ≡ c = omega (arith, low, below) in
      subst (λ k. Contains (filter p (range_with_len a (suc n))) k) same (first_listed p a n (ap p same ∙ h))
]

-- a number below the end that passes is among those that do
pub listed : (p : ℕ → Bool) (c n : ℕ) → c < n → p c ≡ true → Contains (filter p (range_with_len 0 n)) c
listed p c n there h = listed_from p 0 n c (omega arith) (omega (arith, there)) h
