-- Widths within the bound, part by part.
use Rattle.std.proofs.Common.{◌≡◌, ◌∙◌, ℕ, ℤ, ◌+◌, ◌*◌, ◌<◌, ◌≤◌, arith, max, nat_abs, nat_lt, Bool, true, false}
use Rattle.std.proofs.Common.{List, [], ◌∷◌, map, length, drop, get_or, Option, None, Some, refl, sym, ap}
use Rattle.std.proofs.Math.Nat.{le-max_left, le-max_right, max-le}
use Rattle.std.proofs.lemmas.Bool.{le-ltb, lt-ltb, ltb-false, ltb-true}
use Rattle.std.proofs.lemmas.List.{drop_all}
use Rattle.std.specs.Option.{is_none}
use Rattle.std.specs.Prelude.{◌||◌}
use Rattle.sky_vector.specs.declared.limits.TheConstants.{NUMBER_MOST}
use Rattle.sql_tree.specs.declared.expr.Atom.TheFolds.{fold_out-Expr, fold_out-Factor, fold_out-Prod, fold_out-Signed}
use Rattle.sql_tree.specs.declared.expr.Atom.TheVariants as atom
use Rattle.sql_tree.specs.declared.expr.Expr.{Expr, out-Expr}
use Rattle.sql_tree.specs.declared.expr.Factor.{Factor, out-Factor}
use Rattle.sql_tree.specs.declared.expr.Prod.{Prod, out-Prod}
use Rattle.sql_tree.specs.declared.expr.Signed.{Signed, out-Signed}
use Rattle.sql_tree.specs.declared.name.Col.{Col}
use Rattle.bind_rules.specs.Widths.{Width, and_then, just, taken_from_left, width_at_atom, width_at_expr}
use Rattle.bind_rules.specs.Widths.{width_at_factor, width_at_prod, width_at_signed, width_of}
use Rattle.bind_rules.proofs.Folds.{fold_int, fold_col, fold_bracket}
use Rattle.bind_checks.specs.Narrow.{atom_width, capped, factor_width, narrow, narrow_both, narrow_factor}
use Rattle.bind_checks.specs.Narrow.{narrow_from_left, narrow_signed, prod_width, signed_width}
use Rattle.query_walks.proofs.Loops.{drop_at}

-- ---- two parts

-- what is below one number is below a larger one
lt_of_lt_le : {a b c : ℕ} → a < b → b ≤ c → a < c
lt_of_lt_le h k = omega (arith, h, k)

-- the larger of two is above a bound where one of them is
lt_by : (m a b : ℕ) (one two : Bool) → nat_lt m a ≡ one → nat_lt m b ≡ two → nat_lt m (max a b) ≡ (one || two)
lt_by m a b true two e f = lt-ltb m (max a b) (lt_of_lt_le (ltb-true m a e) (le-max_left a b))
lt_by m a b false true e f = lt-ltb m (max a b) (lt_of_lt_le (ltb-true m b f) (le-max_right a b))
lt_by m a b false false e f = le-ltb m (max a b) (max-le (ltb-false m a e) (ltb-false m b f))

-- the same, whichever it is
lt_max : (m a b : ℕ) → nat_lt m (max a b) ≡ (nat_lt m a || nat_lt m b)
lt_max m a b = lt_by m a b (nat_lt m a) (nat_lt m b) refl refl

-- two parts together are within the bound where each is, and what they come to
both_by : (op : ℕ → ℕ → ℕ) (l r : Width) (wide one two : Bool) → nat_lt NUMBER_MOST (op l.size r.size) ≡ wide
    → nat_lt NUMBER_MOST l.widest ≡ one → nat_lt NUMBER_MOST r.widest ≡ two
    → narrow (and_then op l r) ≡ narrow_both op (narrow l) (narrow r)
unfolding narrow narrow_both capped
both_by op l r true true two e f g = rw (lt_max, f, e) refl
both_by op l r true false true e f g = rw (lt_max, f, g, e) refl
both_by op l r true false false e f g = rw (lt_max, f, g, e) refl
both_by op l r false true two e f g = rw (lt_max, lt_max, e, f) refl
both_by op l r false false true e f g = rw (lt_max, lt_max, f, g, e) refl
both_by op l r false false false e f g = rw (lt_max, lt_max, f, g, e) refl

-- the same, however wide they are
both_narrow : (op : ℕ → ℕ → ℕ) (l r : Width) → narrow (and_then op l r) ≡ narrow_both op (narrow l) (narrow r)
both_narrow op l r =
    both_by op l r (nat_lt NUMBER_MOST (op l.size r.size)) (nat_lt NUMBER_MOST l.widest) (nat_lt NUMBER_MOST r.widest) refl
    refl refl

-- ---- several parts

-- several parts from the left are within the bound where each front is
all_narrow : (op : ℕ → ℕ → ℕ) (w : Width) (xs : List Width)
    → narrow (taken_from_left op w xs) ≡ narrow_from_left op (narrow w) (map narrow xs)
unfolding narrow_from_left
all_narrow op w [] = refl
all_narrow op w (x ∷ xs) =
    all_narrow op (and_then op w x) xs ∙ ap (λ n. narrow_from_left op n (map narrow xs)) (both_narrow op w x)

-- one map behind another is a map
map_twice : {A B C : Type 0} (f : A → B) (g : B → C) (xs : List A) → map g (map f xs) ≡ map (λ x. g (f x)) xs
map_twice f g [] = refl
map_twice f g (x ∷ xs) = ap (λ t. g (f x) ∷ t) (map_twice f g xs)

-- behind what is too wide all is
pub from_too_wide : (op : ℕ → ℕ → ℕ) (ms : List (Option ℕ)) → None ≡ narrow_from_left op None ms
unfolding narrow_from_left narrow_both
from_too_wide op [] = refl
from_too_wide op (m ∷ ms) = from_too_wide op ms

-- one more part is taken, where the front with it is within the bound
pub left_later : {A : Type 0} (op : ℕ → ℕ → ℕ) (part : A → Option ℕ) (start : Option ℕ) (xs : List A) (i : ℕ) (x : A)
    (sum next : ℕ)
    → i < length xs → x ≡ get_or xs i x
    → narrow_from_left op start (map part xs) ≡ narrow_from_left op (Some sum) (map part (drop i xs))
    → Some next ≡ narrow_both op (Some sum) (part x)
    → narrow_from_left op start (map part xs) ≡ narrow_from_left op (Some next) (map part (drop (i + 1) xs))
unfolding narrow_from_left
left_later op part start xs i x sum next low is ahead h = ahead ∙ rw (drop_at xs i x low is, h) refl

-- all is too wide, where the front with one more part is
pub left_too_wide : {A : Type 0} (op : ℕ → ℕ → ℕ) (part : A → Option ℕ) (start : Option ℕ) (xs : List A) (i : ℕ)
    (x : A) (sum : ℕ)
    → i < length xs → x ≡ get_or xs i x
    → narrow_from_left op start (map part xs) ≡ narrow_from_left op (Some sum) (map part (drop i xs))
    → None ≡ narrow_both op (Some sum) (part x) → None ≡ narrow_from_left op start (map part xs)
unfolding narrow_from_left
left_too_wide op part start xs i x sum low is ahead h =
    let step : narrow_from_left op (Some sum) (map part (drop i xs)) ≡ narrow_from_left op
    (narrow_both op (Some sum) (part x)) (map part (drop (i + 1) xs)) = rw (drop_at xs i x low is) refl in
    from_too_wide op (map part (drop (i + 1) xs)) ∙ ap (λ n. narrow_from_left op n (map part (drop (i + 1) xs))) h ∙
    sym (ahead ∙ step)

-- behind the last part the front is all
pub left_at_end : {A : Type 0} (op : ℕ → ℕ → ℕ) (part : A → Option ℕ) (start : Option ℕ) (xs : List A) (i : ℕ) (sum : ℕ)
    → length xs ≤ i → narrow_from_left op start (map part xs) ≡ narrow_from_left op (Some sum) (map part (drop i xs))
    → Some sum ≡ narrow_from_left op start (map part xs)
unfolding narrow_from_left
left_at_end op part start xs i sum far ahead = rw (ahead, drop_all i xs far) refl

-- ---- the parts of an expression

-- the width of a sum, by its products
expr_width_parts : (size : Col → ℕ) (e : Expr)
    → width_of size e ≡ taken_from_left (λ a b. a + b) (prod_width size (out-Expr e).first)
    (map (signed_width size) (out-Expr e).rest)
unfolding width_of atom_width factor_width prod_width signed_width
expr_width_parts size e =
    fold_out-Expr Width Width Width Width Width (width_at_atom size) width_at_expr width_at_factor width_at_prod
    width_at_signed e

-- the width of a product, by its factors
prod_width_parts : (size : Col → ℕ) (p : Prod)
    → prod_width size p ≡ taken_from_left (λ a b. a * b) (factor_width size (out-Prod p).first)
    (map (factor_width size) (out-Prod p).rest)
unfolding width_of atom_width factor_width prod_width signed_width
prod_width_parts size p =
    fold_out-Prod Width Width Width Width Width (width_at_atom size) width_at_expr width_at_factor width_at_prod
    width_at_signed p

-- the width of a further product
pub signed_width_parts : (size : Col → ℕ) (s : Signed)
    → signed_width size s ≡ prod_width size (out-Signed s).prod
unfolding width_of atom_width factor_width prod_width signed_width
signed_width_parts size s =
    fold_out-Signed Width Width Width Width Width (width_at_atom size) width_at_expr width_at_factor width_at_prod
    width_at_signed s

-- the width of a factor
pub factor_width_parts : (size : Col → ℕ) (f : Factor)
    → factor_width size f ≡ atom_width size (out-Factor f).atom
unfolding width_of atom_width factor_width prod_width signed_width
factor_width_parts size f =
    fold_out-Factor Width Width Width Width Width (width_at_atom size) width_at_expr width_at_factor width_at_prod
    width_at_signed f

-- a sum within the bound, by its products
pub narrow_expr_parts : (size : Col → ℕ) (e : Expr)
    → narrow (width_of size e) ≡ narrow_from_left (λ a b. a + b) (narrow (prod_width size (out-Expr e).first))
    (map (narrow_signed size) (out-Expr e).rest)
narrow_expr_parts size e =
    ap narrow (expr_width_parts size e)
    ∙ all_narrow (λ a b. a + b) (prod_width size (out-Expr e).first) (map (signed_width size) (out-Expr e).rest)
    ∙ ap (narrow_from_left (λ a b. a + b) (narrow (prod_width size (out-Expr e).first)))
    (map_twice (signed_width size) narrow (out-Expr e).rest)

-- a product within the bound, by its factors
pub narrow_prod_parts : (size : Col → ℕ) (p : Prod)
    → narrow (prod_width size p) ≡ narrow_from_left (λ a b. a * b) (narrow (factor_width size (out-Prod p).first))
    (map (narrow_factor size) (out-Prod p).rest)
narrow_prod_parts size p =
    ap narrow (prod_width_parts size p)
    ∙ all_narrow (λ a b. a * b) (factor_width size (out-Prod p).first) (map (factor_width size) (out-Prod p).rest)
    ∙ ap (narrow_from_left (λ a b. a * b) (narrow (factor_width size (out-Prod p).first)))
    (map_twice (factor_width size) narrow (out-Prod p).rest)

-- a part that takes nothing on the way is within the bound where it is
just_narrow : (n : ℕ) → narrow (just n) ≡ capped n
unfolding narrow capped
just_narrow n = refl

-- an int within the bound
pub narrow_int : (size : Col → ℕ) (n : ℤ) → narrow (atom_width size (atom.Int n)) ≡ capped (nat_abs n)
unfolding atom_width
narrow_int size n =
    ap narrow (fold_int (width_at_atom size) width_at_expr width_at_factor width_at_prod width_at_signed n) ∙
    just_narrow (nat_abs n)

-- a column within the bound
pub narrow_col : (size : Col → ℕ) (c : Col)
    → narrow (atom_width size (atom.Col c)) ≡ capped (size c)
unfolding atom_width
narrow_col size c =
    ap narrow (fold_col (width_at_atom size) width_at_expr width_at_factor width_at_prod width_at_signed c) ∙
    just_narrow (size c)

-- brackets within the bound
pub narrow_bracket : (size : Col → ℕ) (e : Expr)
    → narrow (atom_width size (atom.Bracket e)) ≡ narrow (width_of size e)
unfolding atom_width width_of
narrow_bracket size e =
    ap narrow (fold_bracket (width_at_atom size) width_at_expr width_at_factor width_at_prod width_at_signed e)

-- what is not within the bound is too wide, by whether it is
none_by : (w : Width) (wide : Bool) → nat_lt NUMBER_MOST w.widest ≡ wide → is_none (narrow w) ≡ nat_lt NUMBER_MOST w.widest
unfolding narrow
none_by w true e = rw e refl
none_by w false e = rw e refl

-- what is not within the bound is too wide
pub none_narrow : (w : Width) → is_none (narrow w) ≡ nat_lt NUMBER_MOST w.widest
none_narrow w = none_by w (nat_lt NUMBER_MOST w.widest) refl
