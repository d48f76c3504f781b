use Rattle.std.proofs.Common.{sym, subst}
use Rattle.std.specs.Prelude.{All}
use Rattle.sky_plan.specs.Regions.{bounds_shown}
use Rattle.near_join.specs.Neighbours.{IsFlagged}
use Rattle.near_join.proofs.Neighbouring.{all_with}
use Rattle.near_join.proofs.pairs.push_if.Goals as goal

pub returns-in_ok-push-clause-flagged : goal.returns-in_ok-push-clause-flagged
returns-in_ok-push-clause-flagged c =
    let flagged = IsFlagged c.args.rows.now.objects (bounds_shown c.args.region.now) in
    subst (All flagged) (sym c.in_ok-push.ensures.items) (all_with flagged c.args.found.now.items c.neighbour_at.result c.requires.flagged c.neighbour_at.ensures.flagged)
