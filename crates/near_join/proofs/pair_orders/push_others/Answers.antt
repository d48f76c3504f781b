use Rattle.std.proofs.Common.{List, arith, false, get_or, pos, subst, sym}
use Rattle.std.specs.List.{flat_map}
use Rattle.std.proofs.lemmas.List.{get_or_default, take_all}
use Rattle.value_rules.specs.Values.{Pick}
use Rattle.near_join.specs.declared.neighbour.Neighbour.{Neighbour}
use Rattle.near_join.specs.Gains.{Gains}
use Rattle.near_join.specs.Neighbours.{neighbour_pairs, row_of}
use Rattle.near_join.proofs.Gaining.{gained_rows, gains_joined, gains_nothing}
use Rattle.near_join.proofs.Neighbouring.{pairs_more}
use Rattle.near_join.proofs.pair_orders.push_others.Goals as goal

pub loop-other-init : goal.loop-other-init
loop-other-init c = gains_nothing c.args.asked.now.query.now c.args.piece.now c.requires.of_rows

pub push_other-requires-clause-of_rows : goal.push_other-requires-clause-of_rows
push_other-requires-clause-of_rows c = gained_rows c.args.asked.now.query.now _ c.args.piece.now c.loop-other.piece c.loop-other.invariant

pub loop-other-preserved : goal.loop-other-preserved
loop-other-preserved c =
    let index = c.loop-other.other-index in
    let found = c.args.found.now in
    let cq = c.args.asked.now.query.now in
    let orders = neighbour_pairs cq c.args.asked.now.reach.now.limit c.args.asked.now.rows.now.objects c.args.this.now.held (row_of c.args.asked.now.rows.now.objects c.args.this.now) in
    let none : Neighbour = record { place = 0; id = pos 0; held = false } in
    let other = get_or found index none in
    subst (λ (ps : List Pick). Gains cq ps c.args.piece.now c.push_other.new.piece)
    (sym (pairs_more orders found index other c.loop-other-test.true (get_or_default found index none other c.loop-other-test.true)))
    (gains_joined cq _ _ c.args.piece.now c.loop-other.piece c.push_other.new.piece c.loop-other.invariant c.in_ok-push_other.ensures)

pub returns : goal.returns
returns c =
    let cq = c.args.asked.now.query.now in
    let whole = take_all c.loop-other.other-index c.args.found.now (omega (arith, c.loop-other-test.false)) in
    subst (λ (l : List Neighbour). Gains cq (flat_map (neighbour_pairs cq c.args.asked.now.reach.now.limit c.args.asked.now.rows.now.objects c.args.this.now.held (row_of c.args.asked.now.rows.now.objects c.args.this.now)) l) c.args.piece.now c.loop-other.piece)
    whole c.loop-other.invariant
