use Rattle.std.proofs.Common.{List, OnOk, rules, subst, FitsSigned, w64}
use Rattle.std.proofs.lemmas.Int.{to_z-of_z}
use Rattle.value_rules.specs.Values.{Pick, pair}
use Rattle.partial_merge.specs.Joining.{TakesRow}
use Rattle.near_join.specs.Bare.{id_line}
use Rattle.near_join.specs.Gains.{Gains}
use Rattle.near_join.specs.Neighbours.{IsRowOf, row_of}
use Rattle.near_join.proofs.Answering.{on_ok}
use Rattle.near_join.proofs.Gaining.{gains_one}
use Rattle.near_join.proofs.Neighbouring.{bare_line}
use Rattle.near_join.proofs.Upwards.{bare_met}
use Rattle.near_join.proofs.pair_orders.push_upward.Goals as goal

pub returns-then-asked : goal.returns-then-asked
returns-then-asked c =
    let cq = c.args.asked.now.query.now in
    let rises = c.args.asked.now.reach.now.rises in
    let a = c.args.first.now in
    let b = c.args.second.now in
    let u = row_of c.args.asked.now.rows.now.objects a in
    let v = row_of c.args.asked.now.rows.now.objects b in
    let fits_a : FitsSigned w64 a.id = search rules in
    let fits_b : FitsSigned w64 b.id = search rules in
    let bare = c.requires.asked.bare c.if-asked.true in
    let put : OnOk c.push_line.result (TakesRow c.args.piece.now (id_line a.id b.id) c.push_line.new.piece) = simp to_z-of_z at c.push_line.ensures in
    on_ok c.push_line.result _ _
    (λ t. subst (λ (ps : List Pick). Gains cq ps c.args.piece.now c.push_line.new.piece) (bare_met cq rises u v bare c.requires.upward)
    (gains_one cq (pair u v) (id_line a.id b.id) c.args.piece.now c.push_line.new.piece (bare_line cq rises u v a.id b.id bare (IsRowOf.id c.requires.first) (IsRowOf.id c.requires.second)) t))
    put
