-- The values of an expression on selected rows are there, and none is too large.
use Rattle.std.proofs.Common.{◌≡◌, refl, ap, ℕ, suc, ◌≤◌, arith, true, false, List, [], ◌∷◌, length, Some}
use Rattle.std.specs.List.{AllByRecursion as Each}
use Rattle.std.proofs.lemmas.List.Elements.{All-from_recursion}
use Rattle.table_rules.specs.Objects.{Obj, IsRow}
use Rattle.sql_bound.specs.declared.expr.BoundExpr.{BoundExpr}
use Rattle.value_rules.specs.Sound.{has_col, is_sound_expr}
use Rattle.value_rules.specs.Values.{row}
use Rattle.value_rules.specs.Widths.{IsOfSize, most}
use Rattle.value_rules.proofs.Ranges.{row_is_within, sound_value_is_in_range}
use Rattle.chunk_filter.specs.Values.{IsReady, values_on}

-- none of the values is too large
pub values_sized : (columns : ℕ) (e : BoundExpr) (objects : List Obj) → is_sound_expr (has_col columns false) e ≡ true → Each IsRow objects → Each (IsOfSize most) (values_on e objects)
values_sized columns e [] sound rows = tt
values_sized columns e (o ∷ objects) sound rows =
    (sound_value_is_in_range (has_col columns false) e (row o) sound (row_is_within o rows.0), values_sized columns e objects sound rows.1)

-- ---- the values of aggregates

count_values : (e : BoundExpr) (objects : List Obj) → length (values_on e objects) ≡ length objects
count_values e [] = refl
count_values e (o ∷ objects) = ap suc (count_values e objects)

-- the values of an expression are there up to any place among the rows
pub ready_values : (columns n : ℕ) (e : BoundExpr) (objects : List Obj) → is_sound_expr (has_col columns false) e ≡ true → Each IsRow objects → n ≤ length objects
    → IsReady n (Some (values_on e objects))
ready_values columns n e objects sound rows few =
    (omega (arith, few, count_values e objects), All-from_recursion (IsOfSize most) (values_on e objects) (values_sized columns e objects sound rows))
