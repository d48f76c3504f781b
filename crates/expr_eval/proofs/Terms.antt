-- Sums and products on a row or a pair, as far as they have come: sound, and not too large.
use Rattle.std.proofs.Common.{◌≡◌, ℕ, ◌+◌, ◌*◌, ◌<◌, ◌≤◌, drop, get_or, length, ℤ, ◌*ℤ◌, Bool, true}
use Rattle.std.proofs.Common.{false, if◌then◌else◌, List, [], ◌∷◌, ◌++◌, map, Option, sym, ap, subst, ◌∙◌}
use Rattle.std.proofs.Common.{arith, max}
use Rattle.std.specs.Prelude.{◌&&◌, nat_le}
use Rattle.std.specs.List.{list_all}
use Rattle.std.proofs.Math.Nat.{le-max_left, le-max_right}
use Rattle.std.proofs.lemmas.Bool.{and_parts, and_from}
use Rattle.std.proofs.lemmas.List.Folds.{list_all-append}
use Rattle.expr_eval.specs.Picks.{AreRows, IsSoundTerm, is_there, value_on}
use Rattle.sql_bound.specs.declared.expr.BoundCol.{BoundCol}
use Rattle.sql_bound.specs.declared.expr.BoundExpr.{BoundExpr, out-BoundExpr}
use Rattle.sql_bound.specs.declared.expr.BoundFactor.{BoundFactor, out-BoundFactor}
use Rattle.sql_bound.specs.declared.expr.BoundProd.{BoundProd, out-BoundProd}
use Rattle.value_rules.proofs.Ranges.{narrow, size_up, width_le_widest}
use Rattle.value_rules.proofs.Within.{term_is_within}
use Rattle.value_rules.specs.Sound.{columns_at, is_sound_at}
use Rattle.value_rules.specs.Terms.{Term, SignedTerm, Minus, Plus, Less, Times, sum_from, product_from, term_of}
use Rattle.value_rules.specs.Terms.{term_of_atom, term_of_factor, term_of_prod, term_of_signed}
use Rattle.sql_bound.specs.declared.expr.BoundSigned.{BoundSigned, out-BoundSigned}
use Rattle.expr_eval.proofs.Layers.{factor_parts, product_parts, signed_parts, sum_parts}
use Rattle.expr_eval.proofs.SoFar.{ProductSoFar, SumSoFar, goes_times, goes_with, with_one}
use Rattle.value_rules.specs.Values.{Pick, cell_of, of_both}
use Rattle.value_rules.specs.Widths.{IsOfSize, most, width_at, widest_at}

-- what is sound is not too large
pub fits : (p : Pick) (t : Term) → AreRows p → IsSoundTerm p t → IsOfSize most (value_on p t)
fits p t rows sound =
    let w = width_le_widest t in
    let n = narrow (is_there p) t sound in
    size_up (width_at t) most (value_on p t) (omega (arith, w, n)) (term_is_within (cell_of p) rows.within t)

-- a test of two sizes, and what it says
below : (a b : ℕ) → nat_le a b ≡ true → a ≤ b
below a b h = grind arith

at_most : (a b : ℕ) → a ≤ b → nat_le a b ≡ true
at_most a b h = grind arith

-- the columns and the widths of two parts
two : (allowed : BoundCol → Bool) (xs ys : List BoundCol) (a b c m : ℕ)
    → (list_all allowed (xs ++ ys) && nat_le (max a (max b c)) m) ≡ true
    → ((list_all allowed xs && nat_le b m) ≡ true) × ((list_all allowed ys && nat_le c m) ≡ true)
two allowed xs ys a b c m h =
    let both = and_parts (list_all allowed (xs ++ ys)) (nat_le (max a (max b c)) m) h in
    let apart = sym (list_all-append allowed xs ys) ∙ both.0 in
    let named = and_parts (list_all allowed xs) (list_all allowed ys) apart in
    let size = below (max a (max b c)) m both.1 in
    let x = le-max_right a (max b c) in
    let y = le-max_left b c in
    let z = le-max_right b c in (
      and_from _ _ named.0 (at_most b m (omega (arith, x, y, size))),
      and_from _ _ named.1 (at_most c m (omega (arith, x, z, size))),
    )

-- the parts of a sound sum, difference or product are sound
plus_sound : (allowed : BoundCol → Bool) (t u : Term) → is_sound_at allowed (Plus t u) ≡ true
    → (is_sound_at allowed t ≡ true) × (is_sound_at allowed u ≡ true)
plus_sound allowed t u h =
    two allowed (columns_at t) (columns_at u) (width_at t + width_at u) (widest_at t) (widest_at u) most h

less_sound : (allowed : BoundCol → Bool) (t u : Term) → is_sound_at allowed (Less t u) ≡ true
    → (is_sound_at allowed t ≡ true) × (is_sound_at allowed u ≡ true)
less_sound allowed t u h =
    two allowed (columns_at t) (columns_at u) (width_at t + width_at u) (widest_at t) (widest_at u) most h

times_sound : (allowed : BoundCol → Bool) (t u : Term) → is_sound_at allowed (Times t u) ≡ true
    → (is_sound_at allowed t ≡ true) × (is_sound_at allowed u ≡ true)
times_sound allowed t u h =
    two allowed (columns_at t) (columns_at u) (width_at t * width_at u) (widest_at t) (widest_at u) most h

with_one_sound : (allowed : BoundCol → Bool) (t u : Term) (minus : Bool)
    → is_sound_at allowed (if minus then Less t u else Plus t u) ≡ true
    → (is_sound_at allowed t ≡ true) × (is_sound_at allowed u ≡ true)
with_one_sound allowed t u true h = less_sound allowed t u h
with_one_sound allowed t u false h = plus_sound allowed t u h

-- each front of a sound sum is sound
pub sum_front : (allowed : BoundCol → Bool) (t : Term) (rest : List SignedTerm)
    → is_sound_at allowed (sum_from t rest) ≡ true → is_sound_at allowed t ≡ true
sum_front allowed t [] h = h
sum_front allowed t (s ∷ rest) h =
    (with_one_sound allowed t s.term s.minus (sum_front allowed (with_one t s) rest h)).0

-- and so is what comes next
pub sum_next : (allowed : BoundCol → Bool) (t : Term) (s : SignedTerm) (rest : List SignedTerm)
    → is_sound_at allowed (sum_from t (s ∷ rest)) ≡ true → is_sound_at allowed s.term ≡ true
sum_next allowed t s rest h = (with_one_sound allowed t s.term s.minus (sum_front allowed (with_one t s) rest h)).1

-- each front of a sound product is sound, and so is what comes next
pub product_front : (allowed : BoundCol → Bool) (t : Term) (rest : List Term)
    → is_sound_at allowed (product_from t rest) ≡ true → is_sound_at allowed t ≡ true
product_front allowed t [] h = h
product_front allowed t (u ∷ rest) h = (times_sound allowed t u (product_front allowed (Times t u) rest h)).0

pub product_next : (allowed : BoundCol → Bool) (t u : Term) (rest : List Term)
    → is_sound_at allowed (product_from t (u ∷ rest)) ≡ true → is_sound_at allowed u ≡ true
product_next allowed t u rest h = (times_sound allowed t u (product_front allowed (Times t u) rest h)).1

-- ---- a sum as far as it has come

-- what is added next is sound, and the value so far is not too large
pub sum_sound : (p : Pick) (v : Option ℤ) (s : SignedTerm) (rest : List SignedTerm) (whole : Term)
    → SumSoFar (cell_of p) v (s ∷ rest) whole → IsSoundTerm p whole → IsSoundTerm p s.term
sum_sound p v s rest whole h sound =
    sum_next (is_there p) h.front s rest (ap (is_sound_at (is_there p)) h.goes_on ∙ sound)

pub sum_fits : (p : Pick) (v : Option ℤ) (rest : List SignedTerm) (whole : Term) → AreRows p → SumSoFar (cell_of p) v rest whole
    → IsSoundTerm p whole → IsOfSize most v
sum_fits p v rest whole rows h sound =
    subst (IsOfSize most) (sym h.value)
    (fits p h.front rows (sum_front (is_there p) h.front rest (ap (is_sound_at (is_there p)) h.goes_on ∙ sound)))

-- ---- a product as far as it has come

-- what is multiplied next is sound
pub product_sound : (p : Pick) (v : Option ℤ) (t : Term) (rest : List Term) (whole : Term)
    → ProductSoFar (cell_of p) v (t ∷ rest) whole → IsSoundTerm p whole → IsSoundTerm p t
product_sound p v t rest whole h sound =
    product_next (is_there p) h.front t rest (ap (is_sound_at (is_there p)) h.goes_on ∙ sound)

-- the product of the value so far and of the next one is not too large
pub product_fits : (p : Pick) (v w : Option ℤ) (t : Term) (rest : List Term) (whole : Term) → AreRows p
    → ProductSoFar (cell_of p) v (t ∷ rest) whole → IsSoundTerm p whole → w ≡ value_on p t
    → IsOfSize most (of_both (λ a b. a *ℤ b) v w)
product_fits p v w t rest whole rows h sound part =
    subst (IsOfSize most)
    (sym (ap (λ a. of_both (λ a b. a *ℤ b) a w) h.value
    ∙ ap (λ b. of_both (λ a b. a *ℤ b) (value_on p h.front) b) part))
    (fits p (Times h.front t) rows
    (product_front (is_there p) (Times h.front t) rest (ap (is_sound_at (is_there p)) h.goes_on ∙ sound)))

-- ---- the parts of a sound tree are sound

-- the first product of a sum
pub first_product : (p : Pick) (e : BoundExpr) → IsSoundTerm p (term_of e)
    → IsSoundTerm p (term_of_prod (out-BoundExpr e).first)
first_product p e h =
    sum_front (is_there p) (term_of_prod (out-BoundExpr e).first) (map term_of_signed (out-BoundExpr e).rest)
    (sym (ap (is_sound_at (is_there p)) (sum_parts e)) ∙ h)

-- the first factor of a product
pub first_factor : (p : Pick) (x : BoundProd) → IsSoundTerm p (term_of_prod x)
    → IsSoundTerm p (term_of_factor (out-BoundProd x).first)
first_factor p x h =
    product_front (is_there p) (term_of_factor (out-BoundProd x).first) (map term_of_factor (out-BoundProd x).rest)
    (sym (ap (is_sound_at (is_there p)) (product_parts x)) ∙ h)

-- what a minus stands before is sound with it
minus_sound : (p : Pick) (minus : Bool) (t : Term) → IsSoundTerm p (if minus then Minus t else t) → IsSoundTerm p t
minus_sound p true t h = h
minus_sound p false t h = h

-- the atom of a factor
pub factor_atom : (p : Pick) (f : BoundFactor) → IsSoundTerm p (term_of_factor f)
    → IsSoundTerm p (term_of_atom (out-BoundFactor f).atom)
factor_atom p f h =
    minus_sound p (out-BoundFactor f).minus (term_of_atom (out-BoundFactor f).atom)
    (sym (ap (is_sound_at (is_there p)) (factor_parts f)) ∙ h)

-- ---- a step of the loop over the further products of a sum

-- that product is sound
pub next_product : (p : Pick) (v : Option ℤ) (e : BoundExpr) (xs : List BoundSigned) (i : ℕ) (s : BoundSigned)
    → i < length xs → s ≡ get_or xs i s → SumSoFar (cell_of p) v (map term_of_signed (drop i xs)) (term_of e)
    → IsSoundTerm p (term_of e) → IsSoundTerm p (term_of_prod (out-BoundSigned s).prod)
next_product p v e xs i s low is h sound =
    sym (ap (λ (x : SignedTerm). is_sound_at (is_there p) x.term) (signed_parts s))
    ∙ sum_sound p v (term_of_signed s) (map term_of_signed (drop (i + 1) xs)) (term_of e)
    (goes_with (cell_of p) v e xs i s low is h) sound

-- ---- a step of the loop over the further factors of a product

-- that factor is sound, and the product with it is not too large
pub next_factor : (p : Pick) (v : Option ℤ) (y : BoundProd) (xs : List BoundFactor) (i : ℕ) (f : BoundFactor)
    → i < length xs → f ≡ get_or xs i f → ProductSoFar (cell_of p) v (map term_of_factor (drop i xs)) (term_of_prod y)
    → IsSoundTerm p (term_of_prod y) → IsSoundTerm p (term_of_factor f)
next_factor p v y xs i f low is h sound =
    product_sound p v (term_of_factor f) (map term_of_factor (drop (i + 1) xs)) (term_of_prod y)
    (goes_times (cell_of p) v y xs i f low is h) sound

pub next_fits : (p : Pick) (v w : Option ℤ) (y : BoundProd) (xs : List BoundFactor) (i : ℕ) (f : BoundFactor)
    → i < length xs → f ≡ get_or xs i f → AreRows p
    → ProductSoFar (cell_of p) v (map term_of_factor (drop i xs)) (term_of_prod y) → IsSoundTerm p (term_of_prod y)
    → w ≡ value_on p (term_of_factor f) → IsOfSize most (of_both (λ a b. a *ℤ b) v w)
next_fits p v w y xs i f low is rows h sound part =
    product_fits p v w (term_of_factor f) (map term_of_factor (drop (i + 1) xs)) (term_of_prod y) rows
    (goes_times (cell_of p) v y xs i f low is h) sound part
