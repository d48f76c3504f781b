-- When a child piece may be finished, and what its table then is.
use Rattle.std.specs.Prelude.{◌≡◌, ℕ, List}
use Rattle.table_rules.specs.Objects.{Obj, IdsAscend}
use Rattle.sky_rules.specs.Partition.{Partition}
use Rattle.source_rules.specs.Sources.{Source}
use Rattle.sql_bound.specs.declared.query.Bound.{Bound}
use Rattle.answer_rules.specs.declared.value.Value.{Value}
use Rattle.answer_rules.specs.Pieces.{PieceView}
use Rattle.child_rules.specs.ChildBases.{ChildBase, IsChildBase}
use Rattle.child_rules.specs.Children.{IsChild, child_answer_in}
use Rattle.child_rules.specs.ChildLaws.{SourcesAscend}
use Rattle.child_rules.specs.ChildPieces.{ChildFor}

-- The piece represents the child query over some chunks of a base.
pub record MayFinishChild (q : Bound) (view : PieceView) : Type 0 where
  pub base : ChildBase
  pub fits : IsChildBase base
  pub child : IsChild q
  pub chunks : List ℕ
  pub stands : ChildFor base.plan base.rows.objects base.table.sources q chunks view

-- whatever chunks of whatever tables the piece represents, the table is the answer of the query over these chunks
abbrev pub IsChildAnswer : Bound → PieceView → List (List Value) → Type 0
IsChildAnswer q view table =
    (g : Partition) (objects : List Obj) (sources : List Source) (chunks : List ℕ) → IdsAscend objects
    → SourcesAscend sources → ChildFor g objects sources q chunks view
    → table ≡ child_answer_in g objects sources q chunks
