use Rattle.std.proofs.Common.{◌≡◌, ◌∙◌, OnOk, ap, sym, subst}
use Rattle.sky_rules.specs.Bounds.{sub_bounds_of}
use Rattle.sky_rules.specs.Partition.{Partition}
use Rattle.sky_plan.specs.Regions.{bounds_shown}
use Rattle.table_rules.specs.Objects.{Catalogue}
use Rattle.near_join.specs.Gains.{Gains, held_rows, swept_pairs}
use Rattle.near_join.specs.Strips.{IsChunkStrip, IsListed, IsSubStrip}
use Rattle.sky_row.specs.Columns.{objects_at}
use Rattle.near_join.proofs.Answering.{on_ok}
use Rattle.near_join.proofs.Joining.{gains_sub}
use Rattle.near_join.proofs.Sweeping.{whole_in_sky}
use Rattle.near_join.proofs.chunk.push_near.Goals as goal

pub sub_strip-requires-clause-region : goal.sub_strip-requires-clause-region
sub_strip-requires-clause-region c = c.sub_region-region.ensures ∙ ap (λ (p : Partition). sub_bounds_of p c.args.joined.now.chunk c.args.sub) c.plan.ensures

pub sub_strip-requires-clause-whole : goal.sub_strip-requires-clause-whole
sub_strip-requires-clause-whole c = whole_in_sky c.args.joined.now.store.now.rows.objects c.args.joined.now.strip.now c.requires.rows (IsChunkStrip.listed c.requires.strip)

pub push_swept-requires-clause-listed : goal.push_swept-requires-clause-listed
push_swept-requires-clause-listed c = subst (λ (t : Catalogue). IsListed t.objects c.in_ok-near.near) (sym c.rows.ensures) (IsSubStrip.listed c.in_ok-near.ensures)

pub push_swept-requires-clause-whole : goal.push_swept-requires-clause-whole
push_swept-requires-clause-whole c = whole_in_sky c.args.joined.now.store.now.rows.objects c.in_ok-near.near c.requires.rows (IsSubStrip.listed c.in_ok-near.ensures)

pub push_swept-requires-clause-ascend : goal.push_swept-requires-clause-ascend
push_swept-requires-clause-ascend c = IsSubStrip.rise c.in_ok-near.ensures

pub returns : goal.returns
returns c =
    let g = c.args.joined.now.store.now.plan in
    let objects = c.args.joined.now.store.now.rows.objects in
    let cq = c.args.joined.now.query.now in
    let limit = c.args.joined.now.reach.now.limit in
    let near = c.in_ok-near.near in
    let bounds = bounds_shown c.sub_region-region.result in
    let is : bounds ≡ sub_bounds_of g c.args.joined.now.chunk c.args.sub = c.sub_region-region.ensures ∙ ap (λ (p : Partition). sub_bounds_of p c.args.joined.now.chunk c.args.sub) c.plan.ensures in
    let gain : OnOk c.push_swept.result (Gains cq (swept_pairs cq limit (objects_at objects near.places) (held_rows bounds (objects_at objects near.places))) c.args.piece.now c.push_swept.new.piece) =
    subst (λ (t : Catalogue). OnOk c.push_swept.result (Gains cq (swept_pairs cq limit (objects_at t.objects near.places) (held_rows bounds (objects_at t.objects near.places))) c.args.piece.now c.push_swept.new.piece)) c.rows.ensures c.push_swept.ensures in
    on_ok c.push_swept.result _ _ (gains_sub g objects cq limit c.args.joined.now.chunk c.args.sub bounds near c.args.piece.now c.push_swept.new.piece is c.in_ok-near.ensures) gain
