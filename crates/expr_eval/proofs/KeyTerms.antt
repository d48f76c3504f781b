-- Sums and products on the key of a group, as far as they have come: each is of a term whose value is in range.
use Rattle.std.proofs.Common.{◌≡◌, ℕ, ◌+◌, ◌<◌, drop, get_or, length, ℤ, ◌*ℤ◌, Bool, true, false, arith}
use Rattle.std.proofs.Common.{if◌then◌else◌, suc, List, [], ◌∷◌, ◌++◌, map, Option, None, refl, sym, ap, subst, ◌∙◌}
use Rattle.std.specs.Prelude.{All}
use Rattle.std.proofs.lemmas.List.Elements.{All-cons}
use Rattle.sql_bound.specs.declared.expr.BoundCol.{BoundCol}
use Rattle.sql_bound.specs.declared.expr.BoundExpr.{BoundExpr, out-BoundExpr}
use Rattle.sql_bound.specs.declared.expr.BoundFactor.{BoundFactor, out-BoundFactor}
use Rattle.sql_bound.specs.declared.expr.BoundProd.{BoundProd, out-BoundProd}
use Rattle.sql_bound.specs.declared.expr.BoundSigned.{BoundSigned, out-BoundSigned}
use Rattle.value_rules.specs.Keys.{key_cell}
use Rattle.value_rules.specs.Ranges.{IsInRangeAt, subterms_of}
use Rattle.value_rules.specs.Sound.{same_col}
use Rattle.value_rules.specs.Terms.{Term, SignedTerm, Number, Column, Minus, Plus, Less, Times, sum_from}
use Rattle.value_rules.specs.Terms.{product_from, term_of, term_of_atom, term_of_factor, term_of_prod, term_of_signed}
use Rattle.value_rules.specs.Values.{of_both, value_at}
use Rattle.value_rules.specs.Widths.{IsOfSize, most}
use Rattle.expr_eval.proofs.Layers.{factor_parts, product_parts, signed_parts, sum_parts}
use Rattle.expr_eval.proofs.SoFar.{Cells, ProductSoFar, SumSoFar, goes_times, goes_with, with_one}
use Rattle.expr_eval.proofs.Steps.{here_at}

-- ---- the parts of a term in range

-- the first of what all are
head_of : {A : Type 0} (P : A → Type 0) (x : A) (xs : List A) → All P (x ∷ xs) → P x
head_of P x xs h = h 0 x (omega arith)

-- and of the rest
tail_of : {A : Type 0} (P : A → Type 0) (x : A) (xs : List A) → All P (x ∷ xs) → All P xs
tail_of P x xs h = λ i d low. h (suc i) d (omega (arith, low))

-- of the first of two lists
left_of : {A : Type 0} (P : A → Type 0) (xs ys : List A) → All P (xs ++ ys) → All P xs
left_of P [] ys h = λ i d low. absurd (omega (arith, low))
left_of P (x ∷ xs) ys h = All-cons P x xs (head_of P x (xs ++ ys) h) (left_of P xs ys (tail_of P x (xs ++ ys) h))

-- of the second list
right_of : {A : Type 0} (P : A → Type 0) (xs ys : List A) → All P (xs ++ ys) → All P ys
right_of P [] ys h = h
right_of P (x ∷ xs) ys h = right_of P xs ys (tail_of P x (xs ++ ys) h)

-- the value of the term is not too large
abbrev IsSmallAt : Cells → Term → Type 0
IsSmallAt cells t = IsOfSize most (value_at cells t)

-- what is in range is not too large
pub ranged : (cells : Cells) (t : Term) → IsInRangeAt cells t → IsSmallAt cells t
ranged cells (Number n) h = head_of (IsSmallAt cells) (Number n) [] h
ranged cells (Column c) h = head_of (IsSmallAt cells) (Column c) [] h
ranged cells (Minus t) h = head_of (IsSmallAt cells) (Minus t) (subterms_of t) h
ranged cells (Plus t u) h = head_of (IsSmallAt cells) (Plus t u) (subterms_of t ++ subterms_of u) h
ranged cells (Less t u) h = head_of (IsSmallAt cells) (Less t u) (subterms_of t ++ subterms_of u) h
ranged cells (Times t u) h = head_of (IsSmallAt cells) (Times t u) (subterms_of t ++ subterms_of u) h

-- the two parts of a term
first_part : (cells : Cells) (w t u : Term)
    → All (IsSmallAt cells) (w ∷ (subterms_of t ++ subterms_of u)) → IsInRangeAt cells t
first_part cells w t u h =
    left_of (IsSmallAt cells) (subterms_of t) (subterms_of u)
    (tail_of (IsSmallAt cells) w (subterms_of t ++ subterms_of u) h)

second_part : (cells : Cells) (w t u : Term)
    → All (IsSmallAt cells) (w ∷ (subterms_of t ++ subterms_of u)) → IsInRangeAt cells u
second_part cells w t u h =
    right_of (IsSmallAt cells) (subterms_of t) (subterms_of u)
    (tail_of (IsSmallAt cells) w (subterms_of t ++ subterms_of u) h)

one_ranged : (cells : Cells) (t u : Term) (minus : Bool)
    → IsInRangeAt cells (if minus then Less t u else Plus t u)
    → IsInRangeAt cells t × IsInRangeAt cells u
one_ranged cells t u true h = (first_part cells (Less t u) t u h, second_part cells (Less t u) t u h)
one_ranged cells t u false h = (first_part cells (Plus t u) t u h, second_part cells (Plus t u) t u h)

-- each front of a sum in range is in range, and so is what comes next
sum_front : (cells : Cells) (t : Term) (rest : List SignedTerm)
    → IsInRangeAt cells (sum_from t rest) → IsInRangeAt cells t
sum_front cells t [] h = h
sum_front cells t (s ∷ rest) h = (one_ranged cells t s.term s.minus (sum_front cells (with_one t s) rest h)).0

sum_next : (cells : Cells) (t : Term) (s : SignedTerm) (rest : List SignedTerm)
    → IsInRangeAt cells (sum_from t (s ∷ rest)) → IsInRangeAt cells s.term
sum_next cells t s rest h = (one_ranged cells t s.term s.minus (sum_front cells (with_one t s) rest h)).1

-- and of a product
product_front : (cells : Cells) (t : Term) (rest : List Term)
    → IsInRangeAt cells (product_from t rest) → IsInRangeAt cells t
product_front cells t [] h = h
product_front cells t (u ∷ rest) h = first_part cells (Times t u) t u (product_front cells (Times t u) rest h)

product_next : (cells : Cells) (t u : Term) (rest : List Term)
    → IsInRangeAt cells (product_from t (u ∷ rest)) → IsInRangeAt cells u
product_next cells t u rest h = second_part cells (Times t u) t u (product_front cells (Times t u) rest h)

-- ---- a sum as far as it has come

-- what is added next is in range, and so is the value so far
sum_ranged : (cells : Cells) (v : Option ℤ) (s : SignedTerm) (rest : List SignedTerm) (whole : Term)
    → SumSoFar cells v (s ∷ rest) whole → IsInRangeAt cells whole → IsInRangeAt cells s.term
sum_ranged cells v s rest whole h range =
    sum_next cells h.front s rest (subst (IsInRangeAt cells) (sym h.goes_on) range)

pub sum_fits : (cells : Cells) (v : Option ℤ) (rest : List SignedTerm) (whole : Term)
    → SumSoFar cells v rest whole → IsInRangeAt cells whole → IsOfSize most v
sum_fits cells v rest whole h range =
    subst (IsOfSize most) (sym h.value)
    (ranged cells h.front (sum_front cells h.front rest (subst (IsInRangeAt cells) (sym h.goes_on) range)))

-- ---- a product as far as it has come

product_ranged : (cells : Cells) (v : Option ℤ) (t : Term) (rest : List Term) (whole : Term)
    → ProductSoFar cells v (t ∷ rest) whole → IsInRangeAt cells whole → IsInRangeAt cells t
product_ranged cells v t rest whole h range =
    product_next cells h.front t rest (subst (IsInRangeAt cells) (sym h.goes_on) range)

product_fits : (cells : Cells) (v w : Option ℤ) (t : Term) (rest : List Term) (whole : Term)
    → ProductSoFar cells v (t ∷ rest) whole → IsInRangeAt cells whole → w ≡ value_at cells t
    → IsOfSize most (of_both (λ a b. a *ℤ b) v w)
product_fits cells v w t rest whole h range part =
    subst (IsOfSize most)
    (sym (ap (λ a. of_both (λ a b. a *ℤ b) a w) h.value
    ∙ ap (λ b. of_both (λ a b. a *ℤ b) (value_at cells h.front) b) part))
    (ranged cells (Times h.front t)
    (product_front cells (Times h.front t) rest (subst (IsInRangeAt cells) (sym h.goes_on) range)))

-- ---- the parts of a tree in range

pub first_product : (cells : Cells) (e : BoundExpr) → IsInRangeAt cells (term_of e)
    → IsInRangeAt cells (term_of_prod (out-BoundExpr e).first)
first_product cells e h =
    sum_front cells (term_of_prod (out-BoundExpr e).first) (map term_of_signed (out-BoundExpr e).rest)
    (subst (IsInRangeAt cells) (sum_parts e) h)

pub first_factor : (cells : Cells) (x : BoundProd) → IsInRangeAt cells (term_of_prod x)
    → IsInRangeAt cells (term_of_factor (out-BoundProd x).first)
first_factor cells x h =
    product_front cells (term_of_factor (out-BoundProd x).first) (map term_of_factor (out-BoundProd x).rest)
    (subst (IsInRangeAt cells) (product_parts x) h)

minus_ranged : (cells : Cells) (minus : Bool) (t : Term)
    → IsInRangeAt cells (if minus then Minus t else t) → IsInRangeAt cells t
minus_ranged cells true t h = tail_of (IsSmallAt cells) (Minus t) (subterms_of t) h
minus_ranged cells false t h = h

pub factor_atom : (cells : Cells) (f : BoundFactor) → IsInRangeAt cells (term_of_factor f)
    → IsInRangeAt cells (term_of_atom (out-BoundFactor f).atom)
factor_atom cells f h =
    minus_ranged cells (out-BoundFactor f).minus (term_of_atom (out-BoundFactor f).atom)
    (subst (IsInRangeAt cells) (factor_parts f) h)

-- ---- a step of the loop over the further products of a sum

-- that product is in range
pub next_product : (cells : Cells) (v : Option ℤ) (e : BoundExpr) (xs : List BoundSigned) (i : ℕ) (s : BoundSigned)
    → i < length xs → s ≡ get_or xs i s → SumSoFar cells v (map term_of_signed (drop i xs)) (term_of e)
    → IsInRangeAt cells (term_of e) → IsInRangeAt cells (term_of_prod (out-BoundSigned s).prod)
next_product cells v e xs i s low is h range =
    subst (λ (x : SignedTerm). IsInRangeAt cells x.term) (signed_parts s)
    (sum_ranged cells v (term_of_signed s) (map term_of_signed (drop (i + 1) xs)) (term_of e)
    (goes_with cells v e xs i s low is h) range)

-- ---- a step of the loop over the further factors of a product

-- that factor is in range, and the product with it is not too large
pub next_factor : (cells : Cells) (v : Option ℤ) (y : BoundProd) (xs : List BoundFactor) (i : ℕ) (f : BoundFactor)
    → i < length xs → f ≡ get_or xs i f → ProductSoFar cells v (map term_of_factor (drop i xs)) (term_of_prod y)
    → IsInRangeAt cells (term_of_prod y) → IsInRangeAt cells (term_of_factor f)
next_factor cells v y xs i f low is h range =
    product_ranged cells v (term_of_factor f) (map term_of_factor (drop (i + 1) xs)) (term_of_prod y)
    (goes_times cells v y xs i f low is h) range

pub next_fits : (cells : Cells) (v w : Option ℤ) (y : BoundProd) (xs : List BoundFactor) (i : ℕ) (f : BoundFactor)
    → i < length xs → f ≡ get_or xs i f
    → ProductSoFar cells v (map term_of_factor (drop i xs)) (term_of_prod y) → IsInRangeAt cells (term_of_prod y)
    → w ≡ value_at cells (term_of_factor f) → IsOfSize most (of_both (λ a b. a *ℤ b) v w)
next_fits cells v w y xs i f low is h range part =
    product_fits cells v w (term_of_factor f) (map term_of_factor (drop (i + 1) xs)) (term_of_prod y)
    (goes_times cells v y xs i f low is h) range part

-- ---- the value in a column

-- where the column at a place is another one, the value is that among the further ones
pub passed_here : (keys : List BoundCol) (key : List (Option ℤ)) (c d : BoundCol) (i : ℕ) → length key ≡ length keys
    → i < length keys → same_col (get_or keys i d) c ≡ false
    → key_cell (drop i keys) (drop i key) c ≡ key_cell (drop (i + 1) keys) (drop (i + 1) key) c
passed_here keys key c d i long low other =
    rw (here_at keys i d low, here_at key i None (omega (arith, long, low)), other) refl
