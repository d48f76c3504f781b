use Rattle.std.proofs.Common.{◌≡◌, filter, take, slice_get}
use Rattle.sky_rules.specs.Bounds.{in_sub}
use Rattle.chunk_rules.specs.Places.{passes}
use Rattle.chunk_store.proofs.store.Store.sub.Given as goal

abbrev pub invariant-loop-place : goal.invariant-loop-place
invariant-loop-place l = l.places.items ≡ filter (λ i. passes (λ o. in_sub l.self.plan l.chunk l.sub o.at) (slice_get l.self.rows.objects i)) (take l.place-index l.own)
