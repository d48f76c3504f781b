use Rattle.std.proofs.Common.{◌∙◌, ◌+◌, false, ap, map, sym, subst}
use Rattle.std.specs.Prelude.{All}
use Rattle.table_rules.specs.Objects.{IsRow}
use Rattle.value_rules.specs.Sound.{has_col}
use Rattle.value_rules.specs.Terms.{term_of}
use Rattle.value_rules.specs.Values.{row, value_of}
use Rattle.column_vectors.proofs.Reading.{lane_values, rows_there}
use Rattle.column_eval.proofs.Sums.{sum_small}
use Rattle.column_eval.proofs.expr.listed_values.Goals as goal

pub listed_sum-requires-clause-rows : goal.listed_sum-requires-clause-rows
listed_sum-requires-clause-rows c =
    subst (λ v. All IsRow v.objects) (sym c.new-rows.ensures)
    (rows_there c.args.block.now.objects c.args.picked.now c.len.ensures.rows c.requires.there)

pub of-requires : goal.of-requires
of-requires c =
    sum_small (has_col (4 + c.args.block.now.width) false) c.new-rows.result.objects c.args.e.now c.in_ok-lane.lane
    (subst (λ v. All IsRow v.objects) (sym c.new-rows.ensures)
    (rows_there c.args.block.now.objects c.args.picked.now c.len.ensures.rows c.requires.there))
    c.requires.sound c.in_ok-lane.ensures

pub returns : goal.returns
returns c =
    c.of.ensures
    ∙ (lane_values c.new-rows.result.objects (term_of c.args.e.now) c.in_ok-lane.lane c.in_ok-lane.ensures
    ∙ ap (λ v. map (λ o. value_of c.args.e.now (row o)) v.objects) c.new-rows.ensures)
