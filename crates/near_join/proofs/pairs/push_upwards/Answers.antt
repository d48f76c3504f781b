use Rattle.std.proofs.Common.{◌≡◌, ◌∙◌, ◌+◌, ℕ, List, OnOk, ap, drop, get_or, map, sym, subst, true}
use Rattle.std.specs.Prelude.{All}
use Rattle.std.proofs.lemmas.List.Elements.{filter_passes}
use Rattle.sky_plan.specs.Regions.{bounds_shown}
use Rattle.sky_row.specs.Columns.{objects_at}
use Rattle.value_rules.specs.Values.{Pick}
use Rattle.near_join.specs.declared.neighbour.Neighbour.{Neighbour}
use Rattle.near_join.specs.Gains.{Gains, upward_pairs}
use Rattle.near_join.specs.Neighbours.{IsFlagged}
use Rattle.near_join.specs.Strips.{is_close, object_at}
use Rattle.near_join.proofs.Gaining.{gains_nothing}
use Rattle.near_join.proofs.Neighbouring.{all_of_map, pairs_flagged, rows_flagged}
use Rattle.near_join.proofs.Upwards.{near_are_enough, no_pairs}
use Rattle.near_join.proofs.pairs.push_upwards.Goals as goal

pub returns-then-is_done : goal.returns-then-is_done
returns-then-is_done c =
    let cq = c.args.asked.now.query.now in
    let near = c.args.near.now in
    let done = c.is_done.ensures c.if-is_done.true in
    let places : List Neighbour → List ℕ = map (λ n. n.place) in
    subst (λ (ps : List Pick). Gains cq ps c.args.piece.now c.args.piece.now)
    (sym (no_pairs cq c.args.asked.now.reach.now.limit (bounds_shown c.args.region.now) c.args.asked.now.rows.now.objects (get_or near.places c.args.i 0) (drop (c.args.i + 1) near.places) (places c.as_slice.result.now)
    (c.requires.asked.rises done.0) (ap places c.as_slice.ensures.value ∙ c.in_ok-pick.ensures.places) (ap places done.1)))
    (gains_nothing cq c.args.piece.now c.requires.of_rows)

pub push_found-requires-clause-row : goal.push_found-requires-clause-row
push_found-requires-clause-row c = IsFlagged.row c.neighbour_at-this.ensures.flagged

pub push_found-requires-clause-found : goal.push_found-requires-clause-found
push_found-requires-clause-found c =
    let objects = c.args.asked.now.rows.now.objects in
    let bounds = bounds_shown c.args.region.now in
    rows_flagged objects bounds c.as_slice-else-is_done.result.now (subst (All (IsFlagged objects bounds)) (sym c.as_slice-else-is_done.ensures.value) c.in_ok-pick.ensures.flagged)

pub push_found-requires-clause-near : goal.push_found-requires-clause-near
push_found-requires-clause-near c =
    let objects = c.args.asked.now.rows.now.objects in
    let near = c.args.near.now in
    let limit = c.args.asked.now.reach.now.limit in
    let place = get_or near.places c.args.i 0 in
    let test = is_close objects limit place in
    let found = c.as_slice-else-is_done.result.now in
    let places : List Neighbour → List ℕ = map (λ n. n.place) in
    let close : All (λ (p : ℕ). test p ≡ true) (places found) =
    subst (All (λ (p : ℕ). test p ≡ true)) (sym (ap places c.as_slice-else-is_done.ensures.value ∙ c.in_ok-pick.ensures.places)) (filter_passes test (drop (c.args.i + 1) near.places)) in
    subst (λ (q : ℕ). All (λ (n : Neighbour). is_close objects limit q n.place ≡ true) found) (sym c.neighbour_at-this.ensures.place)
    (all_of_map (λ (p : ℕ). test p ≡ true) (λ (n : Neighbour). n.place) found close)

pub returns-else-is_done : goal.returns-else-is_done
returns-else-is_done c =
    let cq = c.args.asked.now.query.now in
    let objects = c.args.asked.now.rows.now.objects in
    let near = c.args.near.now in
    let limit = c.args.asked.now.reach.now.limit in
    let bounds = bounds_shown c.args.region.now in
    let place = get_or near.places c.args.i 0 in
    let this = c.neighbour_at-this.result in
    let found = c.as_slice-else-is_done.result.now in
    let places : List Neighbour → List ℕ = map (λ n. n.place) in
    let same =
    pairs_flagged cq limit bounds objects this found c.neighbour_at-this.ensures.flagged (subst (All (IsFlagged objects bounds)) (sym c.as_slice-else-is_done.ensures.value) c.in_ok-pick.ensures.flagged)
    ∙ ap (λ (p : ℕ). upward_pairs cq limit bounds (object_at objects p) (objects_at objects (places found))) c.neighbour_at-this.ensures.place
    ∙ ap (λ (l : List ℕ). upward_pairs cq limit bounds (object_at objects place) (objects_at objects l)) (ap places c.as_slice-else-is_done.ensures.value ∙ c.in_ok-pick.ensures.places)
    ∙ near_are_enough cq limit bounds objects place (drop (c.args.i + 1) near.places) in
    subst (λ (ps : List Pick). OnOk c.push_found.result (Gains cq ps c.args.piece.now c.push_found.new.piece)) same c.push_found.ensures
