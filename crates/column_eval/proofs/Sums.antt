-- Sums and products of lanes as far as they have come.
use Rattle.std.proofs.Common.{◌≡◌, ◌∙◌, ℕ, ◌+◌, ◌*◌, ◌<◌, ◌≤◌, drop, get_or, length, ◌*ℤ◌, Bool, true, false, if◌then◌else◌, List, [], ◌∷◌, map, sym, ap, subst, arith, All}
use Rattle.expr_eval.proofs.Layers.{factor_parts, product_parts, signed_parts, sum_parts}
use Rattle.expr_eval.proofs.Steps.{next}
use Rattle.expr_eval.proofs.Terms.{sum_front, sum_next, product_front, product_next}
use Rattle.sql_bound.specs.declared.expr.BoundCol.{BoundCol}
use Rattle.sql_bound.specs.declared.expr.BoundExpr.{BoundExpr, out-BoundExpr}
use Rattle.sql_bound.specs.declared.expr.BoundFactor.{BoundFactor, out-BoundFactor}
use Rattle.sql_bound.specs.declared.expr.BoundProd.{BoundProd, out-BoundProd}
use Rattle.sql_bound.specs.declared.expr.BoundSigned.{BoundSigned, out-BoundSigned}
use Rattle.table_rules.specs.Objects.{Obj, IsRow}
use Rattle.value_rules.proofs.Ranges.{narrow, width_le_widest}
use Rattle.value_rules.specs.Sound.{is_sound_at}
use Rattle.value_rules.specs.Terms.{Term, SignedTerm, Minus, Times, sum_from, product_from, term_of, term_of_atom, term_of_factor, term_of_prod, term_of_signed}
use Rattle.value_rules.specs.Widths.{most, width_at}
use Rattle.column_vectors.specs.declared.lane.Lane.{Lane}
use Rattle.column_vectors.specs.Lanes.{AreLanesJoined, CanJoin, IsLane, IsSigned, IsSmall, numbers_of, with_sign}
use Rattle.column_eval.proofs.Laned.{lanes_are, lanes_can, lane_signed, lane_small, makes_product, makes_sum, sum_width, with_term}

-- what is sound is not too wide
pub few : (allowed : BoundCol → Bool) (t : Term) → is_sound_at allowed t ≡ true → width_at t ≤ most
few allowed t sound = let w = width_le_widest t in let n = narrow allowed t sound in omega (arith, w, n)

same_sum : (a b c d : ℕ) → a ≡ c → b ≡ d → a + b ≡ c + d
same_sum a b c d h k = omega (arith, h, k)

-- a signed term by its parts
abbrev pub signed_term : Bool → Term → SignedTerm
signed_term minus t = record { minus = minus; term = t }

-- ---- sums

-- the lane so far is that of a front of the sum
pub record SumSoFar (rows : List Obj) (lane : Lane) (rest : List SignedTerm) (whole : Term) : Type 0 where
  pub front : Term
  pub laned : IsLane rows front lane
  pub goes_on : sum_from front rest ≡ whole

pub sum_can : (allowed : BoundCol → Bool) (rows : List Obj) (a b : Lane) (m : Bool) (u : Term) (rest : List SignedTerm) (whole : Term)
    → All IsRow rows → is_sound_at allowed whole ≡ true → SumSoFar rows a (signed_term m u ∷ rest) whole → IsLane rows u b
    → CanJoin (with_sign m) (a.bound + b.bound) (numbers_of a.numbers) (numbers_of b.numbers)
sum_can allowed rows a b m u rest whole are sound h part =
    let wide = same_sum a.bound b.bound (width_at h.front) (width_at u) h.laned.bound part.bound ∙ sym (sum_width m h.front u) in
    lanes_can (with_sign m) h.front u (with_term m h.front u) (a.bound + b.bound) rows a b (makes_sum m h.front u) are h.laned part wide
    (few allowed (with_term m h.front u) (sum_front allowed (with_term m h.front u) rest (ap (is_sound_at allowed) h.goes_on ∙ sound)))

pub sum_more : (rows : List Obj) (a b c : Lane) (m : Bool) (u : Term) (rest : List SignedTerm) (whole : Term)
    → SumSoFar rows a (signed_term m u ∷ rest) whole → IsLane rows u b → AreLanesJoined (with_sign m) (a.bound + b.bound) a b c
    → SumSoFar rows c rest whole
sum_more rows a b c m u rest whole h part made =
    let wide = same_sum a.bound b.bound (width_at h.front) (width_at u) h.laned.bound part.bound ∙ sym (sum_width m h.front u) in
    record {
      front = with_term m h.front u;
      laned = lanes_are (with_sign m) h.front u (with_term m h.front u) (a.bound + b.bound) rows a b c (makes_sum m h.front u) h.laned part wide made;
      goes_on = h.goes_on;
    }

-- the sum so far goes on with the product at the place
pub sum_goes : (rows : List Obj) (a : Lane) (e : BoundExpr) (xs : List BoundSigned) (i : ℕ) (s : BoundSigned) → i < length xs
    → s ≡ get_or xs i s → SumSoFar rows a (map term_of_signed (drop i xs)) (term_of e)
    → SumSoFar rows a (signed_term (out-BoundSigned s).minus (term_of_prod (out-BoundSigned s).prod) ∷ map term_of_signed (drop (i + 1) xs)) (term_of e)
sum_goes rows a e xs i s low is h =
    subst (λ r. SumSoFar rows a r (term_of e))
    (next term_of_signed xs i s low is ∙ ap (λ x. x ∷ map term_of_signed (drop (i + 1) xs)) (signed_parts s)) h

-- that product is sound
pub next_product : (allowed : BoundCol → Bool) (rows : List Obj) (a : Lane) (m : Bool) (u : Term) (rest : List SignedTerm) (whole : Term)
    → SumSoFar rows a (signed_term m u ∷ rest) whole → is_sound_at allowed whole ≡ true → is_sound_at allowed u ≡ true
next_product allowed rows a m u rest whole h sound =
    sum_next allowed h.front (signed_term m u) rest (ap (is_sound_at allowed) h.goes_on ∙ sound)

-- the first product of a sum
pub first_product : (allowed : BoundCol → Bool) (e : BoundExpr) → is_sound_at allowed (term_of e) ≡ true
    → is_sound_at allowed (term_of_prod (out-BoundExpr e).first) ≡ true
first_product allowed e h =
    sum_front allowed (term_of_prod (out-BoundExpr e).first) (map term_of_signed (out-BoundExpr e).rest)
    (sym (ap (is_sound_at allowed) (sum_parts e)) ∙ h)

pub sum_begun : (rows : List Obj) (a : Lane) (e : BoundExpr) (xs : List BoundSigned) → xs ≡ (out-BoundExpr e).rest
    → IsLane rows (term_of_prod (out-BoundExpr e).first) a → SumSoFar rows a (map term_of_signed xs) (term_of e)
sum_begun rows a e xs same h = record {
  front = term_of_prod (out-BoundExpr e).first;
  laned = h;
  goes_on = ap (λ l. sum_from (term_of_prod (out-BoundExpr e).first) (map term_of_signed l)) same ∙ sym (sum_parts e);
}

pub sum_done : (rows : List Obj) (a : Lane) (e : BoundExpr) (rest : List BoundSigned) → rest ≡ []
    → SumSoFar rows a (map term_of_signed rest) (term_of e) → IsLane rows (term_of e) a
sum_done rows a e rest none h =
    subst (λ t. IsLane rows t a) (ap (λ l. sum_from h.front (map term_of_signed l)) (sym none) ∙ h.goes_on) h.laned

-- ---- products

-- the lane so far is that of a front of the product
pub record ProductSoFar (rows : List Obj) (lane : Lane) (rest : List Term) (whole : Term) : Type 0 where
  pub front : Term
  pub laned : IsLane rows front lane
  pub goes_on : product_from front rest ≡ whole

same_product : (a b c d : ℕ) → a ≡ c → b ≡ d → a * b ≡ c * d
same_product a b c d h k = ap (λ x. x * b) h ∙ ap (λ x. c * x) k

pub product_can : (allowed : BoundCol → Bool) (rows : List Obj) (a b : Lane) (u : Term) (rest : List Term) (whole : Term)
    → All IsRow rows → is_sound_at allowed whole ≡ true → ProductSoFar rows a (u ∷ rest) whole → IsLane rows u b
    → CanJoin (λ x y. x *ℤ y) (a.bound * b.bound) (numbers_of a.numbers) (numbers_of b.numbers)
product_can allowed rows a b u rest whole are sound h part =
    lanes_can (λ x y. x *ℤ y) h.front u (Times h.front u) (a.bound * b.bound) rows a b (makes_product h.front u) are h.laned part
    (same_product a.bound b.bound (width_at h.front) (width_at u) h.laned.bound part.bound)
    (few allowed (Times h.front u) (product_front allowed (Times h.front u) rest (ap (is_sound_at allowed) h.goes_on ∙ sound)))

pub product_more : (rows : List Obj) (a b c : Lane) (u : Term) (rest : List Term) (whole : Term)
    → ProductSoFar rows a (u ∷ rest) whole → IsLane rows u b → AreLanesJoined (λ x y. x *ℤ y) (a.bound * b.bound) a b c
    → ProductSoFar rows c rest whole
product_more rows a b c u rest whole h part made = record {
  front = Times h.front u;
  laned = lanes_are (λ x y. x *ℤ y) h.front u (Times h.front u) (a.bound * b.bound) rows a b c (makes_product h.front u) h.laned part
      (same_product a.bound b.bound (width_at h.front) (width_at u) h.laned.bound part.bound) made;
  goes_on = h.goes_on;
}

-- the product so far goes on with the factor at the place
pub product_goes : (rows : List Obj) (a : Lane) (p : BoundProd) (xs : List BoundFactor) (i : ℕ) (f : BoundFactor) → i < length xs
    → f ≡ get_or xs i f → ProductSoFar rows a (map term_of_factor (drop i xs)) (term_of_prod p)
    → ProductSoFar rows a (term_of_factor f ∷ map term_of_factor (drop (i + 1) xs)) (term_of_prod p)
product_goes rows a p xs i f low is h =
    subst (λ r. ProductSoFar rows a r (term_of_prod p)) (next term_of_factor xs i f low is) h

-- that factor is sound
pub next_factor : (allowed : BoundCol → Bool) (rows : List Obj) (a : Lane) (u : Term) (rest : List Term) (whole : Term)
    → ProductSoFar rows a (u ∷ rest) whole → is_sound_at allowed whole ≡ true → is_sound_at allowed u ≡ true
next_factor allowed rows a u rest whole h sound =
    product_next allowed h.front u rest (ap (is_sound_at allowed) h.goes_on ∙ sound)

-- the first factor of a product
pub first_factor : (allowed : BoundCol → Bool) (p : BoundProd) → is_sound_at allowed (term_of_prod p) ≡ true
    → is_sound_at allowed (term_of_factor (out-BoundProd p).first) ≡ true
first_factor allowed p h =
    product_front allowed (term_of_factor (out-BoundProd p).first) (map term_of_factor (out-BoundProd p).rest)
    (sym (ap (is_sound_at allowed) (product_parts p)) ∙ h)

pub product_begun : (rows : List Obj) (a : Lane) (p : BoundProd) (xs : List BoundFactor) → xs ≡ (out-BoundProd p).rest
    → IsLane rows (term_of_factor (out-BoundProd p).first) a → ProductSoFar rows a (map term_of_factor xs) (term_of_prod p)
product_begun rows a p xs same h = record {
  front = term_of_factor (out-BoundProd p).first;
  laned = h;
  goes_on = ap (λ l. product_from (term_of_factor (out-BoundProd p).first) (map term_of_factor l)) same ∙ sym (product_parts p);
}

pub product_done : (rows : List Obj) (a : Lane) (p : BoundProd) (rest : List BoundFactor) → rest ≡ []
    → ProductSoFar rows a (map term_of_factor rest) (term_of_prod p) → IsLane rows (term_of_prod p) a
product_done rows a p rest none h =
    subst (λ t. IsLane rows t a) (ap (λ l. product_from h.front (map term_of_factor l)) (sym none) ∙ h.goes_on) h.laned

-- ---- factors

-- what a minus stands before is sound with it
minus_sound : (allowed : BoundCol → Bool) (minus : Bool) (t : Term) → is_sound_at allowed (if minus then Minus t else t) ≡ true
    → is_sound_at allowed t ≡ true
minus_sound allowed true t h = h
minus_sound allowed false t h = h

-- the atom of a factor
pub factor_atom : (allowed : BoundCol → Bool) (f : BoundFactor) → is_sound_at allowed (term_of_factor f) ≡ true
    → is_sound_at allowed (term_of_atom (out-BoundFactor f).atom) ≡ true
factor_atom allowed f h =
    minus_sound allowed (out-BoundFactor f).minus (term_of_atom (out-BoundFactor f).atom)
    (sym (ap (is_sound_at allowed) (factor_parts f)) ∙ h)

pub factor_small : (allowed : BoundCol → Bool) (rows : List Obj) (f : BoundFactor) (a : Lane) → All IsRow rows
    → is_sound_at allowed (term_of_factor f) ≡ true → IsLane rows (term_of_atom (out-BoundFactor f).atom) a → IsSmall a
factor_small allowed rows f a are sound h =
    lane_small (term_of_atom (out-BoundFactor f).atom) rows a are h
    (few allowed (term_of_atom (out-BoundFactor f).atom) (factor_atom allowed f sound))

-- the lane of an expression is small
pub sum_small : (allowed : BoundCol → Bool) (rows : List Obj) (e : BoundExpr) (a : Lane) → All IsRow rows
    → is_sound_at allowed (term_of e) ≡ true → IsLane rows (term_of e) a → IsSmall a
sum_small allowed rows e a are sound h = lane_small (term_of e) rows a are h (few allowed (term_of e) sound)

pub factor_signed : (rows : List Obj) (f : BoundFactor) (a b : Lane) → IsLane rows (term_of_atom (out-BoundFactor f).atom) a
    → IsSigned (out-BoundFactor f).minus a b → IsLane rows (term_of_factor f) b
factor_signed rows f a b h made =
    subst (λ t. IsLane rows t b) (sym (factor_parts f))
    (lane_signed (out-BoundFactor f).minus (term_of_atom (out-BoundFactor f).atom) rows a b h made)
