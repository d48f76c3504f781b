use Rattle.chunk_store.specs.Lists.{AreBegunBlocks}
use Rattle.chunk_store.proofs.blocks.begun_blocks.Given as goal

abbrev pub invariant-loop-turn : goal.invariant-loop-turn
invariant-loop-turn l = AreBegunBlocks l.table l.own l.chunks l.blocks.items
