use Rattle.std.proofs.Common.{◌≡◌, ◌≤◌, take, map}
use Rattle.std.specs.Prelude.{min}
use Rattle.std.specs.List.{fold}
use Rattle.sky_rules.specs.Partition.{overlap_at}
use Rattle.sky_rules.specs.declared.limits.TheConstants.{OVERLAP_MOST}
use Rattle.area_analyser.proofs.radius.least_from.Given as goal

abbrev pub invariant-loop-chunk : goal.invariant-loop-chunk
invariant-loop-chunk l = record {
  value : l.least ≡ fold min l.fn.radius (map (overlap_at l.sky) (take l.chunk-index l.chunks));
  most : l.least ≤ OVERLAP_MOST;
}
