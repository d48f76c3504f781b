use Rattle.std.proofs.Common.{◌≡◌, ◌&&◌, List, OnOk, cond, false, int_lt, rules, sym, subst, true, FitsSigned, w64}
use Rattle.std.proofs.lemmas.Bool.{and_parts}
use Rattle.std.proofs.lemmas.Int.{to_z-of_z}
use Rattle.value_rules.specs.Values.{Pick}
use Rattle.near_join.specs.Gains.{Gains}
use Rattle.near_join.specs.Neighbours.{IsRowOf, row_of}
use Rattle.near_join.specs.Rising.{is_upward}
use Rattle.near_join.proofs.Gaining.{gains_nothing}
use Rattle.near_join.proofs.Neighbouring.{ordered_is}
use Rattle.near_join.proofs.Upwards.{way_open, way_shut}
use Rattle.near_join.proofs.pair_orders.push_ordered.Goals as goal

pub push_upward-requires-clause-upward : goal.push_upward-requires-clause-upward
push_upward-requires-clause-upward c =
    let rises = c.args.asked.now.reach.now.rises in
    let a = c.args.first.now in
    let b = c.args.second.now in
    let u = row_of c.args.asked.now.rows.now.objects a in
    let v = row_of c.args.asked.now.rows.now.objects b in
    let fits_a : FitsSigned w64 a.id = search rules in
    let fits_b : FitsSigned w64 b.id = search rules in
    let is : c.is_ordered.result ≡ (a.held && cond rises (int_lt a.id b.id) true) = simp to_z-of_z at c.is_ordered.ensures in
    (and_parts a.held (is_upward rises u v)
    (ordered_is a.held rises c.is_ordered.result true a.id b.id u.id v.id is (IsRowOf.id c.requires.first) (IsRowOf.id c.requires.second) c.if-is_ordered.true)).1

pub returns-then-is_ordered : goal.returns-then-is_ordered
returns-then-is_ordered c =
    let cq = c.args.asked.now.query.now in
    let rises = c.args.asked.now.reach.now.rises in
    let a = c.args.first.now in
    let b = c.args.second.now in
    let u = row_of c.args.asked.now.rows.now.objects a in
    let v = row_of c.args.asked.now.rows.now.objects b in
    let fits_a : FitsSigned w64 a.id = search rules in
    let fits_b : FitsSigned w64 b.id = search rules in
    let is : c.is_ordered.result ≡ (a.held && cond rises (int_lt a.id b.id) true) = simp to_z-of_z at c.is_ordered.ensures in
    subst (λ (ps : List Pick). OnOk c.push_upward.result (Gains cq ps c.args.piece.now c.push_upward.new.piece))
    (way_open cq c.args.asked.now.reach.now.limit a.held rises u v c.requires.near
    (ordered_is a.held rises c.is_ordered.result true a.id b.id u.id v.id is (IsRowOf.id c.requires.first) (IsRowOf.id c.requires.second) c.if-is_ordered.true)) c.push_upward.ensures

pub returns-else-is_ordered : goal.returns-else-is_ordered
returns-else-is_ordered c =
    let cq = c.args.asked.now.query.now in
    let rises = c.args.asked.now.reach.now.rises in
    let a = c.args.first.now in
    let b = c.args.second.now in
    let u = row_of c.args.asked.now.rows.now.objects a in
    let v = row_of c.args.asked.now.rows.now.objects b in
    let fits_a : FitsSigned w64 a.id = search rules in
    let fits_b : FitsSigned w64 b.id = search rules in
    let is : c.is_ordered.result ≡ (a.held && cond rises (int_lt a.id b.id) true) = simp to_z-of_z at c.is_ordered.ensures in
    subst (λ (ps : List Pick). Gains cq ps c.args.piece.now c.args.piece.now)
    (sym (way_shut cq c.args.asked.now.reach.now.limit a.held rises u v c.requires.asked.rises
    (ordered_is a.held rises c.is_ordered.result false a.id b.id u.id v.id is (IsRowOf.id c.requires.first) (IsRowOf.id c.requires.second) c.if-is_ordered.false)))
    (gains_nothing cq c.args.piece.now c.requires.of_rows)
