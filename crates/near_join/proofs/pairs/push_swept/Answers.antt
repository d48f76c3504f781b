use Rattle.std.proofs.Common.{arith}
use Rattle.sky_plan.specs.Regions.{bounds_shown}
use Rattle.near_join.proofs.Gaining.{gained_rows}
use Rattle.near_join.proofs.Upwards.{IsSwept, all_swept, one_swept}
use Rattle.near_join.proofs.pairs.push_swept.Goals as goal

pub loop-i-init : goal.loop-i-init
loop-i-init c = record { of_rows = c.requires.of_rows; rest = λ new g. g }

pub push_upwards-requires-clause-of_rows : goal.push_upwards-requires-clause-of_rows
push_upwards-requires-clause-of_rows c = IsSwept.of_rows c.loop-i.invariant

pub loop-i-preserved : goal.loop-i-preserved
loop-i-preserved c =
    one_swept c.args.asked.now.query.now c.args.asked.now.reach.now.limit (bounds_shown c.args.region.now) c.args.asked.now.rows.now.objects c.args.near.now.places c.args.piece.now c.loop-i.piece c.push_upwards.new.piece c.loop-i.i
    (omega (arith, c.loop-i-test.true, c.len-count.ensures)) c.in_ok-push_upwards.ensures (gained_rows c.args.asked.now.query.now _ c.loop-i.piece c.push_upwards.new.piece c.in_ok-push_upwards.ensures) c.loop-i.invariant

pub returns : goal.returns
returns c =
    all_swept c.args.asked.now.query.now c.args.asked.now.reach.now.limit (bounds_shown c.args.region.now) c.args.asked.now.rows.now.objects c.args.near.now.places c.args.piece.now c.loop-i.piece c.loop-i.i
    (omega (arith, c.loop-i-test.false, c.len-count.ensures)) c.loop-i.invariant
