-- Well-formed bound queries over a table: each column exists, and no number is too large, so the query can be run.
use Rattle.std.specs.Prelude.{ℕ, length, nat_lt, nat_le, nat_eq, ℤ, pos, negsuc, int_le, int_lt, IsTrue}
use Rattle.std.specs.Prelude.{Bool, true, false, not, ◌&&◌, ◌||◌, List, [], ◌∷◌, ◌++◌, Option, None, Some}
use Rattle.std.specs.List.{list_all, list_any}
use Rattle.std.specs.Bool.{beq}
use Rattle.sky_vector.specs.Plane.{plane_product}
use Rattle.sql_bound.specs.Radii.{is_squared_radius}
use Rattle.sql_bound.specs.declared.area.AreaTest.{AreaTest}
use Rattle.sql_bound.specs.declared.area.AreaTest.TheVariants.{Band, Cap, Boxed}
use Rattle.sql_bound.specs.declared.cond.BoundCond.{BoundCond}
use Rattle.sql_bound.specs.declared.expr.BoundCol.{BoundCol}
use Rattle.sql_bound.specs.declared.expr.BoundExpr.{BoundExpr}
use Rattle.sql_bound.specs.declared.query.Bound.{Bound}
use Rattle.sql_bound.specs.declared.query.BoundItem.{BoundItem}
use Rattle.sql_bound.specs.declared.query.BoundItem.TheVariants as item
use Rattle.sql_bound.specs.declared.query.BoundKey.{BoundKey}
use Rattle.sql_bound.specs.declared.query.BoundKey.TheVariants.{Item, Column as ByColumn}
use Rattle.sql_bound.specs.declared.query.BoundOrder.{BoundOrder}
use Rattle.sql_bound.specs.declared.query.Shape.{Shape}
use Rattle.sql_bound.specs.declared.query.Shape.TheVariants.{Rows, Pairs, Groups}
use Rattle.value_rules.specs.Formulas.{Formula, Compares, Among, IsNull, LiesIn, Not, And, Or, formula_of}
use Rattle.value_rules.specs.Terms.{Term, Number, Column, Minus, Plus, Less, Times, term_of}
use Rattle.value_rules.specs.Widths.{widest_at, most}

-- the columns that a term names
abbrev pub columns_at : Term → List BoundCol
columns_at (Number n) = []
columns_at (Column c) = c ∷ []
columns_at (Minus t) = columns_at t
columns_at (Plus t u) = columns_at t ++ columns_at u
columns_at (Less t u) = columns_at t ++ columns_at u
columns_at (Times t u) = columns_at t ++ columns_at u

-- the two are the same column
abbrev pub same_col : BoundCol → BoundCol → Bool
same_col a b = beq a.second b.second && nat_eq a.col b.col

-- the table has the column, and it is one of the second row only if there is one
abbrev pub has_col : ℕ → Bool → BoundCol → Bool
has_col columns paired c = nat_lt c.col columns && (not c.second || paired)

-- each column of the term is allowed, and no number that it computes is too large
abbrev pub is_sound_at : (BoundCol → Bool) → Term → Bool
is_sound_at allowed t = list_all allowed (columns_at t) && nat_le (widest_at t) most

-- each column of the expression is allowed, and no number that it computes is too large
abbrev pub is_sound_expr : (BoundCol → Bool) → BoundExpr → Bool
is_sound_expr allowed e = is_sound_at allowed (term_of e)

-- a cap's n is a squared radius, and the second side of a box is less than half a turn to the left of its first
abbrev pub is_sound_area : AreaTest → Bool
is_sound_area (Band lo hi) = true
is_sound_area (Cap centre n) = is_squared_radius n
is_sound_area (Boxed lo hi a b) = int_lt (pos 0) (plane_product a.dx a.dy b.dx b.dy)

-- each term and each area of the formula is well-formed
abbrev pub is_sound_formula : (BoundCol → Bool) → Formula → Bool
is_sound_formula allowed (Compares op t u) = is_sound_at allowed t && is_sound_at allowed u
is_sound_formula allowed (Among t list) = is_sound_at allowed t
is_sound_formula allowed (IsNull t) = is_sound_at allowed t
is_sound_formula allowed (LiesIn area) = is_sound_area area
is_sound_formula allowed (Not f) = is_sound_formula allowed f
is_sound_formula allowed (And f g) = is_sound_formula allowed f && is_sound_formula allowed g
is_sound_formula allowed (Or f g) = is_sound_formula allowed f && is_sound_formula allowed g

-- each term and each area of the condition is well-formed
abbrev pub is_sound_cond : (BoundCol → Bool) → BoundCond → Bool
is_sound_cond allowed c = is_sound_formula allowed (formula_of c)

-- the query goes over pairs
abbrev pub is_paired : Shape → Bool
is_paired (Pairs limit) = true
is_paired shape = false

-- the columns that may occur outside an aggregate: those of the table, and in a grouped query its keys alone
abbrev pub is_plain_col : ℕ → Shape → BoundCol → Bool
is_plain_col columns Rows c = has_col columns false c
is_plain_col columns (Pairs limit) c = has_col columns true c
is_plain_col columns (Groups keys) c = list_any (λ key. same_col key c) keys

-- an aggregate is in a grouped query, over the columns of the table
abbrev pub may_aggregate : ℕ → Shape → BoundExpr → Bool
may_aggregate columns (Groups keys) e = is_sound_expr (has_col columns false) e
may_aggregate columns shape e = false

-- the query is a grouped query
abbrev pub is_grouping : Shape → Bool
is_grouping (Groups keys) = true
is_grouping shape = false

-- the item may occur in a query of this shape
abbrev pub is_sound_item : ℕ → Shape → BoundItem → Bool
is_sound_item columns shape (item.Plain e) = is_sound_expr (is_plain_col columns shape) e
is_sound_item columns shape item.Count = is_grouping shape
is_sound_item columns shape (item.CountOf e) = may_aggregate columns shape e
is_sound_item columns shape (item.Sum e) = may_aggregate columns shape e
is_sound_item columns shape (item.Min e) = may_aggregate columns shape e
is_sound_item columns shape (item.Max e) = may_aggregate columns shape e
is_sound_item columns shape (item.Avg e) = may_aggregate columns shape e

-- a limit on squared chords is -1 or above, and a key is a column of the table
abbrev pub is_sound_shape : ℕ → Shape → Bool
is_sound_shape columns Rows = true
is_sound_shape columns (Pairs limit) = int_le (negsuc 0) limit
is_sound_shape columns (Groups keys) = list_all (has_col columns false) keys

-- a key is an item that exists, or a column that may occur outside an aggregate
abbrev pub is_sound_key : ℕ → Bound → BoundKey → Bool
is_sound_key columns q (Item place) = nat_lt place (length q.items)
is_sound_key columns q (ByColumn c) = is_plain_col columns q.shape c

-- the key of an order is well-formed
abbrev pub is_sound_order : ℕ → Bound → Option BoundOrder → Bool
is_sound_order columns q None = true
is_sound_order columns q (Some order) = is_sound_key columns q order.key

-- a limit is not below 0
abbrev pub is_sound_limit : Option ℤ → Bool
is_sound_limit None = true
is_sound_limit (Some n) = int_le (pos 0) n

-- A well-formed query: it can be run over a table with the given number of columns.
pub record IsSound (columns : ℕ) (q : Bound) : Type 0 where
  pub shape : IsTrue (is_sound_shape columns q.shape)
  pub items : IsTrue (list_all (is_sound_item columns q.shape) q.items)
  pub conds : IsTrue (list_all (is_sound_cond (has_col columns (is_paired q.shape))) q.conds)
  pub areas : IsTrue (list_all is_sound_area q.areas)
  pub order : IsTrue (is_sound_order columns q q.order)
  pub limit : IsTrue (is_sound_limit q.limit)
