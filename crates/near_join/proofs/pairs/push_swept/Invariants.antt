use Rattle.sky_plan.specs.Regions.{bounds_shown}
use Rattle.near_join.proofs.Upwards.{IsSwept}
use Rattle.near_join.proofs.pairs.push_swept.Given as goal

abbrev pub invariant-loop-i : goal.invariant-loop-i
invariant-loop-i l = IsSwept l.asked.query.now l.asked.reach.now.limit (bounds_shown l.region) l.asked.rows.now.objects l.near.places l.fn.piece l.i l.piece
