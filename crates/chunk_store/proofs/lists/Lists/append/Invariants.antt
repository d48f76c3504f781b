use Rattle.chunk_store.specs.Lists.{AreAppendedBelow}
use Rattle.chunk_store.proofs.lists.Lists.append.Given as goal

abbrev pub invariant-loop-chunk : goal.invariant-loop-chunk
invariant-loop-chunk l = AreAppendedBelow l.chunk l.fn.self l.more l.self
