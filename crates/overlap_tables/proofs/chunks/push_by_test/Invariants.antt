use Rattle.std.proofs.Common.{◌≡◌, ◌++◌}
use Rattle.sky_vector.specs.Pos.{point}
use Rattle.overlap_tables.specs.Overlaps.{others_between}
use Rattle.overlap_tables.proofs.chunks.push_by_test.Given as goal

abbrev pub invariant-loop-chunk : goal.invariant-loop-chunk
invariant-loop-chunk l = l.into.items ≡ l.fn.into.items ++ others_between l.plan (point l.p) 0 l.chunk
