use Rattle.chunk_store.specs.Lists.{AreRowLists}
use Rattle.chunk_store.proofs.fill.range_lists.Given as goal

abbrev pub invariant-loop-k : goal.invariant-loop-k
invariant-loop-k l = AreRowLists l.plan l.rows.objects l.from l.k l.own l.overlap
