use Rattle.std.proofs.Common.{◌≡◌, drop}
use Rattle.std.specs.List.{flat_map, list_any}
use Rattle.query_walks.specs.Parts.{exprs_of_item}
use Rattle.query_walks.proofs.expr_search.is_in_items.Given as goal

abbrev pub invariant-loop-item : goal.invariant-loop-item
invariant-loop-item g l = record {
  ahead : list_any (g.T.ExprTest.passes l.test) (flat_map exprs_of_item l.items)
      ≡ list_any (g.T.ExprTest.passes l.test) (flat_map exprs_of_item (drop l.item-index l.items));
}
