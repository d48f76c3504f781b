-- Which column of a pair each column of the two tables is, if the source is the second row of the pair.
use Rattle.std.specs.Prelude.{ℕ, ◌+◌, ◌==◌, true, false, if◌then◌else◌}
use Rattle.sql_bound.specs.declared.expr.BoundCol.{BoundCol}

-- a column of the object
abbrev pub object_col : ℕ → BoundCol
object_col k = record { second = false; col = k }

-- a column of the source: sourceId is the id of the second row; objectId is the id of the first row, which has the same
-- value in each pair; two columns of a source and four of a row come before the extra ones
abbrev pub source_col : ℕ → BoundCol
source_col k =
    if k == 0 then record { second = true; col = 0 }
    else if k == 1 then object_col 0
    else record { second = true; col = k + 2 }
