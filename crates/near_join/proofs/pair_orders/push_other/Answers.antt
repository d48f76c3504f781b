use Rattle.near_join.specs.Neighbours.{row_of}
use Rattle.near_join.proofs.Answering.{on_ok}
use Rattle.near_join.proofs.Gaining.{gained_rows, gains_joined}
use Rattle.near_join.proofs.Upwards.{near_back}
use Rattle.near_join.proofs.pair_orders.push_other.Goals as goal

pub push_ordered-requires-2-clause-of_rows : goal.push_ordered-requires-2-clause-of_rows
push_ordered-requires-2-clause-of_rows c = gained_rows c.args.asked.now.query.now _ c.args.piece.now c.push_ordered.new.piece c.in_ok-push_ordered.ensures

pub push_ordered-requires-2-clause-near : goal.push_ordered-requires-2-clause-near
push_ordered-requires-2-clause-near c =
    let objects = c.args.asked.now.rows.now.objects in
    near_back c.args.asked.now.reach.now.limit (row_of objects c.args.this.now) (row_of objects c.args.other.now) c.requires.near

pub returns : goal.returns
returns c =
    on_ok c.push_ordered-2.result _ _ (λ g. gains_joined c.args.asked.now.query.now _ _ c.args.piece.now c.push_ordered.new.piece c.push_ordered-2.new.piece c.in_ok-push_ordered.ensures g) c.push_ordered-2.ensures
