use Rattle.chunk_store.proofs.ChunkBlocks.{found}
use Rattle.chunk_store.proofs.blocks.slot_of.Goals as goal

pub unwrap-requires : goal.unwrap-requires
unwrap-requires c = found c.args.chunks.now c.args.chunk c.binary_search.result c.requires.ascend c.requires.has c.binary_search.ensures.position
