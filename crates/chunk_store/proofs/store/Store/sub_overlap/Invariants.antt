use Rattle.std.proofs.Common.{◌≡◌, ◌<◌, ◌++◌, ◌&&◌, not, filter, slice_get, length}
use Rattle.std.specs.List.{All}
use Rattle.sky_rules.specs.Bounds.{in_sub, near_sub}
use Rattle.chunk_rules.specs.Places.{passes}
use Rattle.chunk_store.specs.Places.{sub_overlap_rows}
use Rattle.chunk_store.proofs.store.Store.sub_overlap.Given as goal

abbrev pub invariant-loop-place : goal.invariant-loop-place
invariant-loop-place l = record {
  kept : l.places.items ++ filter (λ i. passes (λ o. near_sub l.self.plan l.chunk l.sub o.at && not (in_sub l.self.plan l.chunk l.sub o.at)) (slice_get l.self.rows.objects i)) l.near ≡ sub_overlap_rows l.self.plan l.self.rows.objects l.chunk l.sub;
  there : All (λ i. i < length l.self.rows.objects) l.near;
}

abbrev pub decreases-loop-place : goal.decreases-loop-place
decreases-loop-place l = length l.near
