use Rattle.std.proofs.Common.{◌≡◌, ◌∙◌, ◌<◌, ℕ, ℤ, List, ap, get_or, length, pos, rules, sym, subst, FitsSigned, w64}
use Rattle.std.proofs.lemmas.Int.{to_z-of_z}
use Rattle.std.proofs.lemmas.List.{get_or-map}
use Rattle.sky_rules.specs.Bounds.{in_bounds}
use Rattle.sky_plan.specs.Regions.{bounds_shown}
use Rattle.sky_row.specs.Columns.{no_row}
use Rattle.table_rules.specs.Objects.{Obj}
use Rattle.near_join.specs.Strips.{IsListed, object_at}
use Rattle.near_join.proofs.Sweeping.{row_is}
use Rattle.near_join.proofs.pairs.neighbour_at.Goals as goal

pub returns-clause-flagged : goal.returns-clause-flagged
returns-clause-flagged c =
    let objects = c.args.rows.now.objects in
    let near = c.args.near.now in
    let place = c.place-place.result in
    let there : place < length objects = subst (λ (p : ℕ). p < length objects) (sym c.place-place.ensures) (IsListed.there c.requires.listed c.args.k 0 c.requires.there) in
    let fits : FitsSigned w64 (get_or c.ids.result.now place (pos 0)) = search rules in
    let is : get_or c.ids.result.now place (pos 0) ≡ (object_at objects place).id =
    ap (λ (l : List ℤ). get_or l place (pos 0)) c.ids.ensures ∙ get_or-map (λ (o : Obj). o.id) objects place no_row (pos 0) there in
    record {
      row = record { there = there; id = simp to_z-of_z is };
      held = c.is_in.ensures ∙ ap (in_bounds (bounds_shown c.args.region.now)) (c.at.ensures ∙ row_is objects near c.args.k c.requires.listed c.requires.there ∙ ap (λ (p : ℕ). (object_at objects p).at) (sym c.place-place.ensures));
    }
