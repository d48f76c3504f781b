use Rattle.std.proofs.Common.{rules, ◌<◌, ◌^◌}
use Rattle.scan_history.proofs.Checking.{goes, position_small, stops}
use Rattle.scan_history.proofs.checker.replay_next.Goals as goal

pub returns-then-branch-clause-ok : goal.returns-then-branch-clause-ok
returns-then-branch-clause-ok c = goes c.args.replay.now c.step.new.self c.in_ok-step.field-0 c.requires.left c.in_ok-step.ensures.decided (search rules)

pub overflow_cast-result : goal.overflow_cast-result
overflow_cast-result c = let low : c.args.position < 2 ^ 23 = position_small c.args.replay.now c.args.position c.requires.so_far in search rules

pub overflow_add-result : goal.overflow_add-result
overflow_add-result c = let low : c.args.position < 2 ^ 23 = position_small c.args.replay.now c.args.position c.requires.so_far in search rules

pub returns-clause-bad : goal.returns-clause-bad
returns-clause-bad c = stops c.args.replay.now c.step.new.self c.in_ok-step.field-0 c.args.position c.requires.left c.requires.so_far c.in_ok-step.ensures.decided (search rules)
