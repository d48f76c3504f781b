use Rattle.std.proofs.Common.{◌≡◌, ◌++◌}
use Rattle.sky_vector.specs.Pos.{point}
use Rattle.overlap_tables.specs.Heights.{first_chunk}
use Rattle.overlap_tables.specs.Overlaps.{others_between}
use Rattle.overlap_tables.proofs.stripes.push_in_stripes.Given as goal

abbrev pub invariant-loop-number : goal.invariant-loop-number
invariant-loop-number l = record {
  all : l.into.items ≡ l.fn.into.items ++ others_between l.plan (point l.p) (first_chunk l.plan l.fn.from) (first_chunk l.plan l.number);
}
