use Rattle.object_index.specs.Granules.{AreFirsts}
use Rattle.object_index.proofs.granules.first_rows.Given as goal

abbrev pub invariant-loop-granule : goal.invariant-loop-granule
invariant-loop-granule l = AreFirsts l.ids l.granule l.firsts.entries
