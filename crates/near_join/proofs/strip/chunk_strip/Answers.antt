use Rattle.std.proofs.Common.{◌≡◌, ◌<◌, ◌∙◌, ap, length, map, sym, subst}
use Rattle.std.specs.Prelude.{All}
use Rattle.table_rules.specs.Objects.{Catalogue}
use Rattle.near_join.specs.Strips.{IsListed}
use Rattle.near_join.proofs.Answering.{if_ok_two}
use Rattle.near_join.proofs.Sweeping.{both_there, chunk_strip_is, column_there}
use Rattle.near_join.proofs.strip.chunk_strip.Goals as goal

pub places_by_height-requires-clause-own : goal.places_by_height-requires-clause-own
places_by_height-requires-clause-own c =
    column_there c.rows-rows.result.now.objects (λ o. o.at.z) c.zs.result.now c.chunk-own.result.now c.zs.ensures.value
    (subst (λ t. All (λ p. p < length t.objects) c.chunk-own.result.now) (sym c.rows-rows.ensures) c.chunk-own.ensures.there)

pub places_by_height-requires-clause-overlap : goal.places_by_height-requires-clause-overlap
places_by_height-requires-clause-overlap c =
    column_there c.rows-rows.result.now.objects (λ o. o.at.z) c.zs.result.now c.full_overlap-overlap.result.now c.zs.ensures.value
    (subst (λ t. All (λ p. p < length t.objects) c.full_overlap-overlap.result.now) (sym c.rows-rows.ensures) c.full_overlap-overlap.ensures.there)

pub gathered-requires : goal.gathered-requires
gathered-requires c =
    subst (λ t. All (λ p. p < length t.objects) c.in_ok-places.places.items) (sym c.rows-rows.ensures)
    (both_there c.args.store.now.rows.objects c.chunk-own.result.now c.full_overlap-overlap.result.now c.in_ok-places.places.items c.chunk-own.ensures.there c.full_overlap-overlap.ensures.there c.in_ok-places.ensures.same)

pub returns : goal.returns
returns c =
    let g = c.args.store.now.plan in
    let objects = c.args.store.now.rows.objects in
    let zs = c.zs.result.now in
    let heights : zs ≡ map (λ o. o.at.z) objects = c.zs.ensures.value ∙ ap (λ (t : Catalogue). map (λ o. o.at.z) t.objects) c.rows-rows.ensures in
    if_ok_two c.gathered.result _ _ _
    (λ s places listed. chunk_strip_is g objects c.args.chunk c.chunk-own.result.now c.full_overlap-overlap.result.now c.in_ok-places.places.items zs s c.chunk-own.ensures.value c.full_overlap-overlap.ensures.value
    heights c.in_ok-places.ensures.same c.in_ok-places.ensures.rise places (subst (λ (t : Catalogue). IsListed t.objects s) c.rows-rows.ensures listed))
    c.gathered.ensures.places c.gathered.ensures.listed
