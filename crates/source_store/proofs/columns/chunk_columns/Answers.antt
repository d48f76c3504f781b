use Rattle.std.proofs.Common.{◌∙◌, subst}
use Rattle.source_store.specs.ChunkColumns.{AreColumnsOf}
use Rattle.source_store.proofs.ChunkColumns.{columns_more}
use Rattle.source_store.proofs.columns.chunk_columns.Goals as goal

pub loop-chunk-preserved : goal.loop-chunk-preserved
loop-chunk-preserved c =
    let one = subst (λ places. AreColumnsOf c.args.sources.now places c.in_ok-of_chunk.of_chunk) c.of.ensures c.in_ok-of_chunk.ensures in
    record {
      are = columns_more c.args.sources.now c.args.lists.now c.loop-chunk.chunk c.loop-chunk.columns.items c.push_reserved.new.self.items c.in_ok-of_chunk.of_chunk
          c.loop-chunk.invariant.are c.push_reserved.ensures.items one;
      room = c.push_reserved.ensures.capacity ∙ c.loop-chunk.invariant.room;
    }
