-- What a query that can be run computes is within ±2^100.
use Rattle.std.proofs.Common.{◌≡◌, ℕ, ◌≤◌, ℤ, nat_abs, Bool, true, false, List, [], ◌∷◌, ◌++◌, Option, Some, None, arith, max}
use Rattle.std.specs.Prelude.{nat_le}
use Rattle.std.specs.List.{AllByRecursion as Each, flat_map, list_all}
use Rattle.std.proofs.Math.Nat.{le-max_left, le-max_right}
use Rattle.std.proofs.lemmas.Bool.{and_parts}
use Rattle.std.proofs.lemmas.List.Elements.{All-from_recursion}
use Rattle.table_rules.specs.Objects.{Obj, IsRow, column_bound}
use Rattle.sql_bound.specs.declared.cond.BoundCond.{BoundCond}
use Rattle.sql_bound.specs.declared.expr.BoundCol.{BoundCol}
use Rattle.sql_bound.specs.declared.expr.BoundExpr.{BoundExpr}
use Rattle.sql_bound.specs.declared.query.Bound.{Bound}
use Rattle.sql_bound.specs.declared.query.BoundItem.{BoundItem}
use Rattle.sql_bound.specs.declared.query.BoundItem.TheVariants as item
use Rattle.sql_bound.specs.declared.query.Shape.{Shape}
use Rattle.sql_bound.specs.declared.query.Shape.TheVariants.{Rows, Pairs, Groups}
use Rattle.value_rules.specs.Formulas.{Formula, Compares, Among, IsNull, LiesIn, Not, And, Or, formula_of}
use Rattle.value_rules.specs.Laws.{RowIsWithin, PairIsWithin, SoundValueIsInRange, SoundIsInRange}
use Rattle.value_rules.specs.Ranges.{subterms_of, tested_terms, item_terms, IsTermInRange, IsInRange}
use Rattle.value_rules.specs.Sound.{columns_at, is_sound_at, is_sound_formula, is_sound_cond, is_sound_item, may_aggregate, is_plain_col, has_col, is_paired}
use Rattle.value_rules.specs.Terms.{Term, Number, Column, Minus, Plus, Less, Times, term_of}
use Rattle.value_rules.specs.Values.{Pick, cell_of, value_at}
use Rattle.value_rules.specs.Widths.{IsOfSize, width_at, widest_at, most}
use Rattle.value_rules.proofs.Cells.{cell_is_within}
use Rattle.value_rules.proofs.Within.{term_is_within}

-- ---- rows and pairs

none_is_within : (n : ℕ) → IsOfSize n None
none_is_within n = tt

row_cell : (o : Obj) → IsRow o → (second : Bool) (col : ℕ) → IsOfSize (nat_abs (column_bound col)) (cell_of (record { first = o; second = None }) (record { second = second; col = col }))
row_cell o h true col = tt
row_cell o h false col = cell_is_within o col h

pub row_is_within : RowIsWithin
row_is_within o h c = row_cell o h c.second c.col

pair_cell : (u v : Obj) → IsRow u → IsRow v → (second : Bool) (col : ℕ) → IsOfSize (nat_abs (column_bound col)) (cell_of (record { first = u; second = Some v }) (record { second = second; col = col }))
pair_cell u v h k true col = cell_is_within v col k
pair_cell u v h k false col = cell_is_within u col h

pub pair_is_within : PairIsWithin
pair_is_within u v h k c = pair_cell u v h k c.second c.col

-- ---- a term and its parts

pub width_le_widest : (t : Term) → width_at t ≤ widest_at t
width_le_widest (Number n) = omega arith
width_le_widest (Column c) = omega arith
width_le_widest (Minus t) = width_le_widest t
width_le_widest (Plus t u) = le-max_left _ _
width_le_widest (Less t u) = le-max_left _ _
width_le_widest (Times t u) = le-max_left _ _

below_both : (a b c m : ℕ) → max a (max b c) ≤ m → (b ≤ m) × (c ≤ m)
below_both a b c m h =
    let x = le-max_right a (max b c) in
    let y = le-max_left b c in
    let z = le-max_right b c in
    (omega (arith, x, y, h), omega (arith, x, z, h))

pub size_up : (n m : ℕ) (v : Option ℤ) → n ≤ m → IsOfSize n v → IsOfSize m v
size_up n m None h k = tt
size_up n m (Some z) h k = omega (arith, h, k)

pub each_append : {X : Type 0} (P : X → Type 0) (xs ys : List X) → Each P xs → Each P ys → Each P (xs ++ ys)
each_append P [] ys h k = k
each_append P (x ∷ xs) ys h k = (h.0, each_append P xs ys h.1 k)

whole_size : (cells : BoundCol → Option ℤ) → ((c : BoundCol) → IsOfSize (nat_abs (column_bound c.col)) (cells c)) → (m : ℕ) (t : Term) → widest_at t ≤ m → IsOfSize m (value_at cells t)
whole_size cells f m t h = let w = width_le_widest t in size_up (width_at t) m (value_at cells t) (omega (arith, w, h)) (term_is_within cells f t)

-- the values of a term and of all that it is computed of
pub parts_size : (cells : BoundCol → Option ℤ) → ((c : BoundCol) → IsOfSize (nat_abs (column_bound c.col)) (cells c)) → (m : ℕ) (t : Term) → widest_at t ≤ m → Each (λ u. IsOfSize m (value_at cells u)) (subterms_of t)
parts_size cells f m (Number n) h = (whole_size cells f m (Number n) h, tt)
parts_size cells f m (Column c) h = (whole_size cells f m (Column c) h, tt)
parts_size cells f m (Minus t) h = (whole_size cells f m (Minus t) h, parts_size cells f m t h)
parts_size cells f m (Plus t u) h =
    let two = below_both _ (widest_at t) (widest_at u) m h in
    (whole_size cells f m (Plus t u) h, each_append _ (subterms_of t) (subterms_of u) (parts_size cells f m t two.0) (parts_size cells f m u two.1))
parts_size cells f m (Less t u) h =
    let two = below_both _ (widest_at t) (widest_at u) m h in
    (whole_size cells f m (Less t u) h, each_append _ (subterms_of t) (subterms_of u) (parts_size cells f m t two.0) (parts_size cells f m u two.1))
parts_size cells f m (Times t u) h =
    let two = below_both _ (widest_at t) (widest_at u) m h in
    (whole_size cells f m (Times t u) h, each_append _ (subterms_of t) (subterms_of u) (parts_size cells f m t two.0) (parts_size cells f m u two.1))

at_most : (a b : ℕ) → nat_le a b ≡ true → a ≤ b
at_most a b h = grind arith

-- what is sound is not too wide
pub narrow : (allowed : BoundCol → Bool) (t : Term) → is_sound_at allowed t ≡ true → widest_at t ≤ most
narrow allowed t h = at_most (widest_at t) most (and_parts (list_all allowed (columns_at t)) _ h).1

pub sound_value_is_in_range : SoundValueIsInRange
sound_value_is_in_range allowed e p h f = whole_size (cell_of p) f most (term_of e) (narrow allowed (term_of e) h)

term_in_range : (allowed : BoundCol → Bool) (p : Pick) → ((c : BoundCol) → IsOfSize (nat_abs (column_bound c.col)) (cell_of p c)) → (t : Term) → is_sound_at allowed t ≡ true → IsTermInRange p t
term_in_range allowed p f t h = All-from_recursion _ (subterms_of t) (parts_size (cell_of p) f most t (narrow allowed t h))

-- ---- conditions and items

formula_in_range : (allowed : BoundCol → Bool) (p : Pick) → ((c : BoundCol) → IsOfSize (nat_abs (column_bound c.col)) (cell_of p c)) → (f : Formula) → is_sound_formula allowed f ≡ true → Each (IsTermInRange p) (tested_terms f)
formula_in_range allowed p b (Compares op t u) h =
    let two = and_parts (is_sound_at allowed t) (is_sound_at allowed u) h in
    (term_in_range allowed p b t two.0, (term_in_range allowed p b u two.1, tt))
formula_in_range allowed p b (Among t list) h = (term_in_range allowed p b t h, tt)
formula_in_range allowed p b (IsNull t) h = (term_in_range allowed p b t h, tt)
formula_in_range allowed p b (LiesIn area) h = tt
formula_in_range allowed p b (Not f) h = formula_in_range allowed p b f h
formula_in_range allowed p b (And f g) h =
    let two = and_parts (is_sound_formula allowed f) (is_sound_formula allowed g) h in
    each_append _ (tested_terms f) (tested_terms g) (formula_in_range allowed p b f two.0) (formula_in_range allowed p b g two.1)
formula_in_range allowed p b (Or f g) h =
    let two = and_parts (is_sound_formula allowed f) (is_sound_formula allowed g) h in
    each_append _ (tested_terms f) (tested_terms g) (formula_in_range allowed p b f two.0) (formula_in_range allowed p b g two.1)

conds_in_range : (allowed : BoundCol → Bool) (p : Pick) → ((c : BoundCol) → IsOfSize (nat_abs (column_bound c.col)) (cell_of p c)) → (cs : List BoundCond) → list_all (is_sound_cond allowed) cs ≡ true → Each (IsTermInRange p) (flat_map (λ c. tested_terms (formula_of c)) cs)
conds_in_range allowed p b [] h = tt
conds_in_range allowed p b (c ∷ cs) h =
    let two = and_parts (is_sound_cond allowed c) (list_all (is_sound_cond allowed) cs) h in
    each_append _ (tested_terms (formula_of c)) _ (formula_in_range allowed p b (formula_of c) two.0) (conds_in_range allowed p b cs two.1)

-- the item of an aggregate
inner_in_range : (columns : ℕ) (shape : Shape) (p : Pick) → ((c : BoundCol) → IsOfSize (nat_abs (column_bound c.col)) (cell_of p c)) → (e : BoundExpr) → may_aggregate columns shape e ≡ true → Each (IsTermInRange p) (term_of e ∷ [])
inner_in_range columns (Groups keys) p b e h = (term_in_range (has_col columns false) p b (term_of e) h, tt)
inner_in_range columns Rows p b e h = absurd cc
inner_in_range columns (Pairs limit) p b e h = absurd cc

item_in_range : (columns : ℕ) (shape : Shape) (p : Pick) → ((c : BoundCol) → IsOfSize (nat_abs (column_bound c.col)) (cell_of p c)) → (i : BoundItem) → is_sound_item columns shape i ≡ true → Each (IsTermInRange p) (item_terms i)
item_in_range columns shape p b (item.Plain e) h = (term_in_range (is_plain_col columns shape) p b (term_of e) h, tt)
item_in_range columns shape p b item.Count h = tt
item_in_range columns shape p b (item.CountOf e) h = inner_in_range columns shape p b e h
item_in_range columns shape p b (item.Sum e) h = inner_in_range columns shape p b e h
item_in_range columns shape p b (item.Min e) h = inner_in_range columns shape p b e h
item_in_range columns shape p b (item.Max e) h = inner_in_range columns shape p b e h
item_in_range columns shape p b (item.Avg e) h = inner_in_range columns shape p b e h

items_in_range : (columns : ℕ) (shape : Shape) (p : Pick) → ((c : BoundCol) → IsOfSize (nat_abs (column_bound c.col)) (cell_of p c)) → (is : List BoundItem) → list_all (is_sound_item columns shape) is ≡ true → Each (IsTermInRange p) (flat_map item_terms is)
items_in_range columns shape p b [] h = tt
items_in_range columns shape p b (i ∷ is) h =
    let two = and_parts (is_sound_item columns shape i) (list_all (is_sound_item columns shape) is) h in
    each_append _ (item_terms i) _ (item_in_range columns shape p b i two.0) (items_in_range columns shape p b is two.1)

-- where the items and the conditions are sound
pub computed_is_in_range : (columns : ℕ) (q : Bound) (p : Pick) → list_all (is_sound_item columns q.shape) q.items ≡ true → list_all (is_sound_cond (has_col columns (is_paired q.shape))) q.conds ≡ true → ((c : BoundCol) → IsOfSize (nat_abs (column_bound c.col)) (cell_of p c)) → IsInRange q p
computed_is_in_range columns q p items conds b =
    All-from_recursion _ _ (each_append _ (flat_map item_terms q.items) _
    (items_in_range columns q.shape p b q.items items)
    (conds_in_range (has_col columns (is_paired q.shape)) p b q.conds conds))

pub sound_is_in_range : SoundIsInRange
sound_is_in_range columns q p sound b = computed_is_in_range columns q p sound.items sound.conds b
