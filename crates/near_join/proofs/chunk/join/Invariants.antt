use Rattle.answer_rules.specs.PieceLaws.{empty_view}
use Rattle.answer_rules.specs.Rows.{limit_of}
use Rattle.near_join.specs.Gains.{Gains}
use Rattle.near_join.proofs.Joining.{walked_below}
use Rattle.near_join.proofs.chunk.join.Given as goal

abbrev pub invariant-loop-sub : goal.invariant-loop-sub
invariant-loop-sub l = Gains l.query (walked_below l.store.plan l.store.rows.objects l.query l.joined.reach.now.limit l.chunk l.sub) (empty_view l.query.shape (limit_of l.query.limit)) l.piece
