use Rattle.chunk_store.specs.Lists.{AreBegunBlocks}
use Rattle.chunk_store.proofs.blocks.fill_turn.Given as goal

abbrev pub invariant-loop-k : goal.invariant-loop-k
invariant-loop-k l = AreBegunBlocks l.table l.own l.chunks l.blocks.items
