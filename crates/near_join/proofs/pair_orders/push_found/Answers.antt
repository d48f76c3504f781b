use Rattle.near_join.proofs.Answering.{on_ok}
use Rattle.near_join.proofs.Gaining.{gained_rows, gains_joined}
use Rattle.near_join.proofs.pair_orders.push_found.Goals as goal

pub push_others-requires-clause-of_rows : goal.push_others-requires-clause-of_rows
push_others-requires-clause-of_rows c = gained_rows c.args.asked.now.query.now _ c.args.piece.now c.push_itself.new.piece c.in_ok-push_itself.ensures

pub returns : goal.returns
returns c =
    on_ok c.push_others.result _ _ (λ g. gains_joined c.args.asked.now.query.now _ _ c.args.piece.now c.push_itself.new.piece c.push_others.new.piece c.in_ok-push_itself.ensures g) c.push_others.ensures
