-- The entries of a list with the numbers of their queries: each is found under its number, and the numbers ascend.
use Rattle.std.proofs.Common.{◌≡◌, ◌≢◌, ◌∙◌, sym, ap, refl, subst, ℕ, zero, suc, ◌+◌, ◌<◌, ◌≤◌, ◌==◌, arith}
use Rattle.std.proofs.Common.{Bool, true, false, cond, List, [], ◌∷◌, ◌++◌, All, AllPairs, length, eq-eqb, ne_eqb}
use Rattle.std.proofs.Common.{eqb-true, None, Some, Option, option_map, slice_get, find}
use Rattle.std.specs.Prelude.{IfSome}
use Rattle.session_rules.specs.Numbers.{numbered_at, numbered_from}

-- one entry more
pub numbered_more : {X : Type 0} (k : ℕ) (xs : List (Option X)) (x : Option X)
    → numbered_from k (xs ++ x ∷ []) ≡ numbered_from k xs ++ numbered_from (k + length xs) (x ∷ [])
numbered_more k [] x = ap (λ n. numbered_from n (x ∷ [])) (omega arith)
numbered_more k (Some y ∷ xs) x =
    let on : (k + 1) + length xs ≡ k + suc (length xs) = omega arith in
    ap (λ rest. (k, y) ∷ rest)
    (numbered_more (k + 1) xs x ∙ ap (λ n. numbered_from (k + 1) xs ++ numbered_from n (x ∷ [])) on)
numbered_more k (None ∷ xs) x =
    let on : (k + 1) + length xs ≡ k + suc (length xs) = omega arith in
    numbered_more (k + 1) xs x ∙ ap (λ n. numbered_from (k + 1) xs ++ numbered_from n (x ∷ [])) on

-- each number is below that of the next query
pub below_from : {X : Type 0} (k : ℕ) (xs : List (Option X)) (n : ℕ) → k + length xs ≤ n
    → All (λ (e : ℕ × X). e.0 < n) (numbered_from k xs)
below_from k [] n high i d low = absurd (omega (arith, low))
below_from k (Some x ∷ xs) n high zero d low = omega (arith, high)
below_from k (Some x ∷ xs) n high (suc i) d low =
    below_from (k + 1) xs n (omega (arith, high)) i d (omega (arith, low))
below_from k (None ∷ xs) n high i d low = below_from (k + 1) xs n (omega (arith, high)) i d low

-- no number is below the first
pub from_number : {X : Type 0} (m k : ℕ) (xs : List (Option X)) → m ≤ k
    → All (λ (e : ℕ × X). m ≤ e.0) (numbered_from k xs)
from_number m k [] least i d low = absurd (omega (arith, low))
from_number m k (Some x ∷ xs) least zero d low = least
from_number m k (Some x ∷ xs) least (suc i) d low =
    from_number m (k + 1) xs (omega (arith, least)) i d (omega (arith, low))
from_number m k (None ∷ xs) least i d low = from_number m (k + 1) xs (omega (arith, least)) i d low

-- the numbers ascend
pub ascend_from : {X : Type 0} (k : ℕ) (xs : List (Option X))
    → AllPairs (λ (e f : ℕ × X). e.0 < f.0) (numbered_from k xs)
ascend_from k [] i j d before low = absurd (omega (arith, low))
ascend_from k (Some x ∷ xs) zero zero d before low = absurd (omega (arith, before))
ascend_from k (Some x ∷ xs) zero (suc j) d before low =
    let above = from_number (k + 1) (k + 1) xs (omega arith) j d (omega (arith, low)) in
    omega (arith, above)
ascend_from k (Some x ∷ xs) (suc i) zero d before low = absurd (omega (arith, before))
ascend_from k (Some x ∷ xs) (suc i) (suc j) d before low =
    ascend_from (k + 1) xs i j d (omega (arith, before)) (omega (arith, low))
ascend_from k (None ∷ xs) i j d before low = ascend_from (k + 1) xs i j d before low

-- what holds of all entries that are present holds of those with numbers
pub holds_from : {X : Type 0} (P : X → Type 0) (k : ℕ) (xs : List (Option X)) → All (λ (x : Option X). IfSome x P) xs
    → All (λ (e : ℕ × X). P e.1) (numbered_from k xs)
holds_from P k [] all i d low = absurd (omega (arith, low))
holds_from P k (Some x ∷ xs) all zero d low = all 0 None (omega arith)
holds_from P k (Some x ∷ xs) all (suc i) d low =
    holds_from P (k + 1) xs (λ n e l. all (suc n) e (omega (arith, l))) i d (omega (arith, low))
holds_from P k (None ∷ xs) all i d low =
    holds_from P (k + 1) xs (λ n e l. all (suc n) e (omega (arith, l))) i d low

-- ---- what is found under a number

not_there : {X : Type 0} (x : Option X) → ◌≡◌ {A = Option (Option X)} None (Some x) → ⊥
not_there x e = absurd (cc)

same_there : {X : Type 0} (a b : Option X) → ◌≡◌ {A = Option (Option X)} (Some a) (Some b) → a ≡ b
same_there a b e = cc

none_is : {X : Type 0} (x : X) → ◌≡◌ {A = Option X} None (Some x) → ⊥
none_is x e = absurd (cc)

pub same_entry : {X : Type 0} (a b : X) → ◌≡◌ {A = Option X} (Some a) (Some b) → a ≡ b
same_entry a b e = cc

-- the search goes by the first number
first_by : {X : Type 0} (k q : ℕ) (x : X) (es : List (ℕ × X)) (b : Bool) → (k == q) ≡ b
    → numbered_at ((k, x) ∷ es) q ≡ option_map (λ e. e.1) (cond b (Some (k, x)) (find (λ e. e.0 == q) es))
first_by k q x es b is = ap (λ t. option_map (λ e. e.1) (cond t (Some (k, x)) (find (λ e. e.0 == q) es))) is

-- an entry that is present is found under its number
pub known_at : {X : Type 0} (k : ℕ) (xs : List (Option X)) (i : ℕ) (x : X) → slice_get xs i ≡ Some (Some x)
    → numbered_at (numbered_from k xs) (k + i) ≡ Some x
known_at k [] i x there = absurd (not_there (Some x) there)
known_at k (Some y ∷ xs) zero x there =
    first_by k (k + 0) y (numbered_from (k + 1) xs) true (eq-eqb k (k + 0) (omega arith)) ∙ same_there _ _ there
known_at k (None ∷ xs) zero x there = absurd (none_is x (same_there _ _ there))
known_at k (Some y ∷ xs) (suc i) x there =
    let on : (k + 1) + i ≡ k + suc i = omega arith in
    first_by k (k + suc i) y (numbered_from (k + 1) xs) false (ne_eqb k (k + suc i) (λ e. absurd (omega (arith, e))))
    ∙ ap (numbered_at (numbered_from (k + 1) xs)) (sym on) ∙ known_at (k + 1) xs i x there
known_at k (None ∷ xs) (suc i) x there =
    let on : (k + 1) + i ≡ k + suc i = omega arith in
    ap (numbered_at (numbered_from (k + 1) xs)) (sym on) ∙ known_at (k + 1) xs i x there

-- What is found under a number is the entry at its index.
pub record IsAt {X : Type 0} (k : ℕ) (xs : List (Option X)) (q : ℕ) (x : X) : Type 0 where
  pub place : ℕ
  pub is : q ≡ k + place
  pub low : place < length xs
  pub there : slice_get xs place ≡ Some (Some x)

one_later : {X : Type 0} (k : ℕ) (y : Option X) (xs : List (Option X)) (q : ℕ) (x : X) → IsAt (k + 1) xs q x
    → IsAt k (y ∷ xs) q x
one_later k y xs q x at = record {
  place = suc at.place;
  is = let i = at.is in omega (arith, i);
  low = let l = at.low in omega (arith, l);
  there = at.there;
}

pub found_at : {X : Type 0} (k : ℕ) (xs : List (Option X)) (q : ℕ) (x : X)
    → numbered_at (numbered_from k xs) q ≡ Some x → IsAt k xs q x
found_at k [] q x known = absurd (none_is x known)
found_at k (None ∷ xs) q x known = one_later k None xs q x (found_at (k + 1) xs q x known)
found_at {X} k (Some y ∷ xs) q x known = by_first (k == q) refl (found_at (k + 1) xs q x)
  where
    by_first : (b : Bool) → (k == q) ≡ b → (numbered_at (numbered_from (k + 1) xs) q ≡ Some x → IsAt (k + 1) xs q x)
        → IsAt k (Some y ∷ xs) q x
    by_first true e later = record {
      place = 0;
      is = let i = eqb-true k q e in omega (arith, i);
      low = omega arith;
      there = ap (λ (o : Option X). Some o) (sym (first_by k q y (numbered_from (k + 1) xs) true e) ∙ known);
    }
    by_first false e later =
        one_later k (Some y) xs q x (later (sym (first_by k q y (numbered_from (k + 1) xs) false e) ∙ known))

-- what holds of all entries holds of that which is found
pub holds_at : {X : Type 0} (P : X → Type 0) (es : List (ℕ × X)) (q : ℕ) (x : X) → numbered_at es q ≡ Some x
    → All (λ (e : ℕ × X). P e.1) es → P x
holds_at P [] q x known all = absurd (none_is x known)
holds_at {X} P (e ∷ es) q x known all =
    by_first (e.0 == q) refl (λ later. holds_at P es q x later (λ i d low. all (suc i) d (omega (arith, low))))
  where
    by_first : (b : Bool) → (e.0 == q) ≡ b → (numbered_at es q ≡ Some x → P x) → P x
    by_first true is later =
        subst P (same_entry e.1 x (sym (first_by e.0 q e.1 es true is) ∙ known)) (all 0 e (omega arith))
    by_first false is later = later (sym (first_by e.0 q e.1 es false is) ∙ known)
