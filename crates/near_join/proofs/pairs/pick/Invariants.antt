use Rattle.std.proofs.Common.{◌≡◌, ◌≤◌, ◌+◌, filter, get_or, length, map, slice_range}
use Rattle.std.specs.Prelude.{All}
use Rattle.sky_plan.specs.Regions.{bounds_shown}
use Rattle.near_join.specs.Neighbours.{IsFlagged}
use Rattle.near_join.specs.Strips.{is_close}
use Rattle.near_join.proofs.pairs.pick.Given as goal

abbrev pub invariant-loop-k : goal.invariant-loop-k
invariant-loop-k l = record {
  least : l.fn.i + 1 ≤ l.k;
  most : l.k ≤ length l.near.places;
  picked : map (λ n. n.place) l.found.items ≡ filter (is_close l.asked.rows.now.objects l.asked.reach.now.limit (get_or l.near.places l.fn.i 0)) (slice_range l.near.places (l.fn.i + 1) l.k);
  flagged : All (IsFlagged l.asked.rows.now.objects (bounds_shown l.region)) l.found.items;
}
