-- Sums and products as far as they have come, where the columns have these values.
use Rattle.std.proofs.Common.{◌≡◌, ℕ, ◌+◌, ◌<◌, drop, get_or, length, ℤ, ◌+ℤ◌, ◌-ℤ◌, ◌*ℤ◌, Bool, true, false}
use Rattle.std.proofs.Common.{if◌then◌else◌, List, ◌∷◌, map, Option, refl, sym, ap, subst, ◌∙◌}
use Rattle.sql_bound.specs.declared.expr.BoundCol.{BoundCol}
use Rattle.sql_bound.specs.declared.expr.BoundExpr.{BoundExpr}
use Rattle.sql_bound.specs.declared.expr.BoundFactor.{BoundFactor}
use Rattle.sql_bound.specs.declared.expr.BoundProd.{BoundProd}
use Rattle.sql_bound.specs.declared.expr.BoundSigned.{BoundSigned, out-BoundSigned}
use Rattle.value_rules.specs.Terms.{Term, SignedTerm, Plus, Less, Times, sum_from, product_from, term_of}
use Rattle.value_rules.specs.Terms.{term_of_factor, term_of_prod, term_of_signed}
use Rattle.value_rules.specs.Values.{of_both, value_at}
use Rattle.expr_eval.proofs.Layers.{signed_parts}
use Rattle.expr_eval.proofs.Steps.{next}

-- the values of the columns
abbrev pub Cells : Type 0
Cells = BoundCol → Option ℤ

-- a term with one more, added or taken away
abbrev pub with_one : Term → SignedTerm → Term
with_one t s = if s.minus then Less t s.term else Plus t s.term

-- ---- a sum as far as it has come

-- the value so far is that of a front of the sum
pub record SumSoFar (cells : Cells) (so_far : Option ℤ) (rest : List SignedTerm) (whole : Term) : Type 0 where
  pub front : Term
  pub value : so_far ≡ value_at cells front
  pub goes_on : sum_from front rest ≡ whole

-- the value with one more
abbrev pub with_value : Option ℤ → Bool → Option ℤ → Option ℤ
with_value v minus w = if minus then of_both (λ x y. x -ℤ y) v w else of_both (λ x y. x +ℤ y) v w

-- it is the value of the term with one more
value_with : (cells : Cells) (t u : Term) (minus : Bool)
    → value_at cells (if minus then Less t u else Plus t u) ≡ with_value (value_at cells t) minus (value_at cells u)
value_with cells t u true = refl
value_with cells t u false = refl

-- a step of it
pub sum_more : (cells : Cells) (v w x : Option ℤ) (s : SignedTerm) (rest : List SignedTerm) (whole : Term)
    → SumSoFar cells v (s ∷ rest) whole → w ≡ value_at cells s.term → x ≡ with_value v s.minus w
    → SumSoFar cells x rest whole
sum_more cells v w x s rest whole h part is = record {
  front = with_one h.front s;
  value = is ∙ ap (λ a. with_value a s.minus w) h.value ∙ ap (λ b. with_value (value_at cells h.front) s.minus b) part
      ∙ sym (value_with cells h.front s.term s.minus);
  goes_on = h.goes_on;
}

-- ---- a product as far as it has come

-- the value so far is that of a front of the product
pub record ProductSoFar (cells : Cells) (so_far : Option ℤ) (rest : List Term) (whole : Term) : Type 0 where
  pub front : Term
  pub value : so_far ≡ value_at cells front
  pub goes_on : product_from front rest ≡ whole

-- a step of it
pub product_more : (cells : Cells) (v w x : Option ℤ) (t : Term) (rest : List Term) (whole : Term)
    → ProductSoFar cells v (t ∷ rest) whole → w ≡ value_at cells t → x ≡ of_both (λ a b. a *ℤ b) v w
    → ProductSoFar cells x rest whole
product_more cells v w x t rest whole h part is = record {
  front = Times h.front t;
  value = is ∙ ap (λ a. of_both (λ a b. a *ℤ b) a w) h.value
      ∙ ap (λ b. of_both (λ a b. a *ℤ b) (value_at cells h.front) b) part;
  goes_on = h.goes_on;
}

-- ---- a step of the loop over the further products of a sum

-- the sum so far goes on with the product at the place
pub goes_with : (cells : Cells) (v : Option ℤ) (e : BoundExpr) (xs : List BoundSigned) (i : ℕ) (s : BoundSigned)
    → i < length xs → s ≡ get_or xs i s → SumSoFar cells v (map term_of_signed (drop i xs)) (term_of e)
    → SumSoFar cells v (term_of_signed s ∷ map term_of_signed (drop (i + 1) xs)) (term_of e)
goes_with cells v e xs i s low is h =
    subst (λ r. SumSoFar cells v r (term_of e)) (next term_of_signed xs i s low is) h

-- with it the sum goes on behind the place
pub sum_step : (cells : Cells) (v w x : Option ℤ) (e : BoundExpr) (xs : List BoundSigned) (i : ℕ) (s : BoundSigned)
    → i < length xs → s ≡ get_or xs i s → SumSoFar cells v (map term_of_signed (drop i xs)) (term_of e)
    → w ≡ value_at cells (term_of_prod (out-BoundSigned s).prod) → x ≡ with_value v (out-BoundSigned s).minus w
    → SumSoFar
    cells x (map term_of_signed (drop (i + 1) xs)) (term_of e)
sum_step cells v w x e xs i s low is h part made =
    sum_more cells v w x (term_of_signed s) (map term_of_signed (drop (i + 1) xs)) (term_of e)
    (goes_with cells v e xs i s low is h)
    (part ∙ sym (ap (λ (y : SignedTerm). value_at cells y.term) (signed_parts s)))
    (made ∙ sym (ap (λ (y : SignedTerm). with_value v y.minus w) (signed_parts s)))

-- ---- a step of the loop over the further factors of a product

-- the product so far goes on with the factor at the place
pub goes_times : (cells : Cells) (v : Option ℤ) (y : BoundProd) (xs : List BoundFactor) (i : ℕ) (f : BoundFactor)
    → i < length xs → f ≡ get_or xs i f → ProductSoFar cells v (map term_of_factor (drop i xs)) (term_of_prod y)
    → ProductSoFar cells v (term_of_factor f ∷ map term_of_factor (drop (i + 1) xs)) (term_of_prod y)
goes_times cells v y xs i f low is h =
    subst (λ r. ProductSoFar cells v r (term_of_prod y)) (next term_of_factor xs i f low is) h

-- with it the product goes on behind the place
pub product_step : (cells : Cells) (v w x : Option ℤ) (y : BoundProd) (xs : List BoundFactor) (i : ℕ) (f : BoundFactor)
    → i < length xs → f ≡ get_or xs i f → ProductSoFar cells v (map term_of_factor (drop i xs)) (term_of_prod y)
    → w ≡ value_at cells (term_of_factor f) → x ≡ of_both (λ a b. a *ℤ b) v w → ProductSoFar cells x
    (map term_of_factor (drop (i + 1) xs)) (term_of_prod y)
product_step cells v w x y xs i f low is h part made =
    product_more cells v w x (term_of_factor f) (map term_of_factor (drop (i + 1) xs)) (term_of_prod y)
    (goes_times cells v y xs i f low is h) part made
