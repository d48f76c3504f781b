use Rattle.std.proofs.Common.{◌∙◌, List, pos, sym, subst}
use Rattle.value_rules.specs.Values.{Pick}
use Rattle.wedge_rules.proofs.Tests.{le_from}
use Rattle.near_join.specs.Gains.{Gains}
use Rattle.near_join.specs.Neighbours.{row_of}
use Rattle.near_join.proofs.Gaining.{gains_nothing}
use Rattle.near_join.proofs.Upwards.{none_near, own_near}
use Rattle.near_join.proofs.pair_orders.push_itself.Goals as goal

pub push_ordered-requires-clause-near : goal.push_ordered-requires-clause-near
push_ordered-requires-clause-near c =
    own_near c.args.asked.now.reach.now.limit (row_of c.args.asked.now.rows.now.objects c.args.this.now) (le_from (pos 0) c.args.asked.now.reach.now.limit (sym c.is_own_pair.ensures ∙ c.if-is_own_pair.true))

pub returns-else-is_own_pair : goal.returns-else-is_own_pair
returns-else-is_own_pair c =
    let cq = c.args.asked.now.query.now in
    subst (λ (ps : List Pick). Gains cq ps c.args.piece.now c.args.piece.now)
    (sym (none_near cq c.args.asked.now.reach.now.limit c.args.this.now.held (row_of c.args.asked.now.rows.now.objects c.args.this.now) (sym c.is_own_pair.ensures ∙ c.if-is_own_pair.false)))
    (gains_nothing cq c.args.piece.now c.requires.of_rows)
