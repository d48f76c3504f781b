use Rattle.std.proofs.Common.{◌≡◌, ◌+◌, ◌-◌, ◌≤◌, filter, length, take}
use Rattle.std.specs.List.{range_with_len}
use Rattle.sky_rules.specs.Bounds.{near_sides}
use Rattle.sky_plan.specs.Regions.{sides_shown}
use Rattle.near_join.specs.Strips.{row_in}
use Rattle.near_join.proofs.sweep.put_near.Given as goal

abbrev pub invariant-loop-i : goal.invariant-loop-i
invariant-loop-i l = record {
  least : l.fn.from ≤ l.i;
  most : l.i ≤ l.fn.to;
  low : l.fn.from + l.count ≤ l.i;
  room : length l.numbers ≡ l.fn.to - l.fn.from;
  taken : take l.count l.numbers ≡ filter (λ k. near_sides l.radius (sides_shown l.sides) (row_in l.strip k)) (range_with_len l.fn.from (l.i - l.fn.from));
}
