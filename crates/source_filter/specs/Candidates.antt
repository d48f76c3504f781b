-- Which sources of a chunk a child query may leave out before it finds their objects.
use Rattle.std.specs.Prelude.{◌≡◌, ℕ, ◌<◌, Bool, true, false, List, length, get_or, filter}
use Rattle.std.specs.List.{range_with_len}
use Rattle.table_rules.specs.Objects.{Obj}
use Rattle.source_rules.specs.Sources.{Source}
use Rattle.source_row.specs.SourceColumns.{SourceParts, source_at}
use Rattle.sql_bound.specs.declared.cond.BoundCond.{BoundCond}
use Rattle.value_rules.specs.Truth.{holds, meets}
use Rattle.value_rules.specs.Values.{cell_of}
use Rattle.child_rules.specs.Children.{child_pair, is_source_of}
use Rattle.source_filter.specs.declared.test.ColumnTest.{ColumnTest}
use Rattle.source_filter.specs.Tests.{passes}

-- the condition does not hold on the source with its object
abbrev pub Fails : BoundCond → Source → Type 0
Fails c s = (o : Obj) → is_source_of o s ≡ true → holds c (child_pair o s) ≡ false

-- the source with its object has no value in the column that passes the test
abbrev pub FailsTest : ColumnTest → Source → Type 0
FailsTest t s = (o : Obj) → is_source_of o s ≡ true → passes t.test (cell_of (child_pair o s) t.col) ≡ false

-- the source with its object does not meet all of the conditions
abbrev pub IsUnmet : List BoundCond → Source → Type 0
IsUnmet conds s = (o : Obj) → is_source_of o s ≡ true → meets conds (child_pair o s) ≡ false

-- Numbers of sources, ascending and each once. A source that is not among them does not meet the conditions with its
-- object.
pub record AreCandidates (conds : List BoundCond) (p : SourceParts) (numbers : List ℕ) : Type 0 where
  pub kept : ℕ → Bool
  pub ascend : numbers ≡ filter kept (range_with_len 0 (length p.ids))
  pub unmet : (k : ℕ) → k < length p.ids → kept k ≡ false → IsUnmet conds (source_at p k)

-- The mask after some conditions: a source that is not in it does not meet all of the conditions.
pub record IsNarrowed (conds : List BoundCond) (p : SourceParts) (mask : List Bool) : Type 0 where
  pub count : length mask ≡ length p.ids
  pub unmet : (k : ℕ) → k < length p.ids → get_or mask k false ≡ false → IsUnmet conds (source_at p k)
