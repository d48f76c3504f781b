use Rattle.std.proofs.Common.{◌≡◌, ◌≤◌, length, vec_len, vec_capacity}
use Rattle.scan_session.specs.KnownEnds.{MarksPlans}
use Rattle.scan_session.proofs.session.first_ends.Given as goal

abbrev pub invariant-loop-plan : goal.invariant-loop-plan
invariant-loop-plan g l = record {
  len : vec_len l.ends ≡ l.plan-index;
  room : length l.plans ≤ vec_capacity l.ends;
  marks : MarksPlans l.plans l.ends.items;
}
