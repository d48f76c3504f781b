-- The pairs that a scan finds.
use Rattle.std.specs.Prelude.{ℕ, List}
use Rattle.std.specs.List.{flat_map}
use Rattle.table_rules.specs.Objects.{Obj}
use Rattle.source_row.specs.SourceColumns.{SourceParts, source_at, sources_in}
use Rattle.sql_bound.specs.declared.query.Bound.{Bound}
use Rattle.value_rules.specs.Values.{Pick}
use Rattle.child_rules.specs.ChildLaws.{met_pairs}

-- the pairs of these sources, each with its object, that meet the conditions of the query
abbrev pub pairs_of : List Obj → Bound → SourceParts → List Pick
pairs_of table q p = flat_map (met_pairs table q.conds) (sources_in p)

-- the pairs of the sources with these numbers that meet the conditions
abbrev pub pairs_at : List Obj → Bound → SourceParts → List ℕ → List Pick
pairs_at table q p numbers = flat_map (λ i. met_pairs table q.conds (source_at p i)) numbers
