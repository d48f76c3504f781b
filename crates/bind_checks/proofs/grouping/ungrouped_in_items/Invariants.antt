use Rattle.std.proofs.Common.{◌≡◌, drop, not}
use Rattle.std.specs.List.{flat_map}
use Rattle.sql_tree.specs.Spans.{col_span}
use Rattle.bind_rules.specs.Names.{is_key}
use Rattle.query_walks.specs.Firsts.{first_place}
use Rattle.bind_checks.specs.Parts.{plain_columns_of}
use Rattle.bind_checks.proofs.grouping.ungrouped_in_items.Given as goal

abbrev pub invariant-loop-item : goal.invariant-loop-item
invariant-loop-item l = record {
  ahead : first_place col_span (λ c. not (is_key l.query c)) (flat_map plain_columns_of l.items)
      ≡ first_place col_span (λ c. not (is_key l.query c)) (flat_map plain_columns_of (drop l.item-index l.items));
}
