-- The value of a column on the key of a group, which has a value for each key column.
use Rattle.std.specs.Prelude.{ℤ, List, [], ◌∷◌, Option, None, if◌then◌else◌}
use Rattle.sql_bound.specs.declared.expr.BoundCol.{BoundCol}
use Rattle.value_rules.specs.Sound.{same_col}

-- the value of a column on a key: that of the first key column that equals it
abbrev pub key_cell : List BoundCol → List (Option ℤ) → BoundCol → Option ℤ
key_cell [] key c = None
key_cell (k ∷ keys) [] c = None
key_cell (k ∷ keys) (v ∷ key) c = if same_col k c then v else key_cell keys key c
