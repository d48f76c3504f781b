-- Conditions that hold only for pairs whose first id is the lower one.
use Rattle.std.specs.Prelude.{◌≡◌, ◌<ℤ◌, Bool, true, List, if◌then◌else◌, int_lt}
use Rattle.table_rules.specs.Objects.{Obj}
use Rattle.sql_bound.specs.declared.cond.BoundCond.{BoundCond}
use Rattle.sql_bound.specs.declared.expr.BoundCol.{BoundCol}
use Rattle.value_rules.specs.Formulas.{Formula}
use Rattle.value_rules.specs.Truth.{is_true, meets, truth_at}
use Rattle.value_rules.specs.Values.{cell_of, pair}

-- the id of the first row of a pair, or of the second
abbrev pub id_of : Bool → BoundCol
id_of second = record { second = second; col = 0 }

-- pairs that meet the conditions have the lower id first
abbrev pub Rises : List BoundCond → Type 0
Rises conds = (u v : Obj) → meets conds (pair u v) ≡ true → u.id <ℤ v.id

-- the formula is true of the pairs that have the lower id first, and of no others
abbrev pub RisesBy : Formula → Type 0
RisesBy f = (u v : Obj) → is_true (truth_at (cell_of (pair u v)) u.at f) ≡ int_lt u.id v.id

-- the first of two rows has the lower id, if it has to
abbrev pub is_upward : Bool → Obj → Obj → Bool
is_upward rises u v = if rises then int_lt u.id v.id else true
