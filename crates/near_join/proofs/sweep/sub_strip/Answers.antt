use Rattle.std.proofs.Common.{◌∙◌, arith, ap, filter, length, slice_range, sym, subst}
use Rattle.sky_rules.specs.Partition.{Partition, overlap_at}
use Rattle.sky_plan.specs.Regions.{bounds_shown}
use Rattle.table_rules.specs.Objects.{Catalogue}
use Rattle.near_join.specs.Strips.{IsChunkStrip, IsListed, is_near_row}
use Rattle.near_join.proofs.Answering.{if_ok_two}
use Rattle.near_join.proofs.Sweeping.{between_moved, strip_short, sub_strip_is}
use Rattle.near_join.proofs.sweep.sub_strip.Goals as goal

pub near_ones-requires-clause-listed : goal.near_ones-requires-clause-listed
near_ones-requires-clause-listed c =
    subst (λ (t : Catalogue). IsListed t.objects c.args.strip.now) (sym c.rows-rows.ensures) (IsChunkStrip.listed c.requires.strip)

pub near_ones-requires-clause-few : goal.near_ones-requires-clause-few
near_ones-requires-clause-few c =
    let short = strip_short c.args.store.now.plan c.args.store.now.rows.objects c.args.chunk c.args.strip.now c.requires.strip in
    let count = c.len.ensures.count in
    let same = ap (λ (t : Catalogue). length t.objects) c.rows-rows.ensures in omega (arith, short, count, same)

pub near_ones-requires-clause-heights : goal.near_ones-requires-clause-heights
near_ones-requires-clause-heights c = between_moved c.zs.result.now c.args.strip.now.zs _ _ _ _ c.zs.ensures c.near_heights-from.ensures

pub returns : goal.returns
returns c =
    let g = c.args.store.now.plan in
    let objects = c.args.store.now.rows.objects in
    let bounds = bounds_shown c.args.region.now in
    let r = c.radius_of-radius.result in
    if_ok_two c.near_ones.result _ _ _
    (λ near places listed. sub_strip_is g objects c.args.chunk c.args.sub r bounds c.args.strip.now near c.near_heights-from.result.0 c.near_heights-from.result.1 c.requires.sky c.requires.chunk c.requires.sub
    c.requires.region
    (c.radius_of-radius.ensures.value ∙ ap (λ (p : Partition). overlap_at p c.args.chunk) c.plan.ensures)
    c.requires.strip (between_moved c.zs.result.now c.args.strip.now.zs _ _ _ _ c.zs.ensures c.near_heights-from.ensures) (places ∙ ap (λ (t : Catalogue). filter (is_near_row t.objects r bounds) (slice_range c.args.strip.now.places c.near_heights-from.result.0 c.near_heights-from.result.1)) c.rows-rows.ensures)
    (subst (λ (t : Catalogue). IsListed t.objects near) c.rows-rows.ensures listed))
    c.near_ones.ensures.places c.near_ones.ensures.listed
