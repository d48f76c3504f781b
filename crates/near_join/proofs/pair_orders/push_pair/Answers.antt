use Rattle.std.proofs.Common.{◌∙◌, ap, map}
use Rattle.answer_rules.specs.Pieces.{chunk_value}
use Rattle.value_rules.specs.Values.{pair}
use Rattle.near_join.proofs.Gaining.{gains_one}
use Rattle.near_join.proofs.Answering.{on_ok}
use Rattle.near_join.proofs.Lining.{row_is_line}
use Rattle.near_join.proofs.pair_orders.push_pair.Goals as goal

pub returns : goal.returns
returns c =
    let cq = c.args.query.now in
    let p = pair c.args.first.now c.args.second.now in
    on_ok c.push_row.result _ _ (gains_one cq p _ c.args.piece.now c.push_row.new.self (row_is_line cq p c.rank_of.result c.as_slice-2.result.now c.rank_of.ensures (c.as_slice-2.ensures.value ∙ c.in_ok-fill.ensures ∙ ap (map (chunk_value p)) c.as_slice.ensures))) c.push_row.ensures.kept
