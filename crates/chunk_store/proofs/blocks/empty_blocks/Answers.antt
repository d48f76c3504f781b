use Rattle.std.proofs.Common.{rules}
use Rattle.chunk_store.proofs.Begun.{one_more_begun}
use Rattle.chunk_store.proofs.blocks.empty_blocks.Goals as goal

pub loop-chunk-preserved : goal.loop-chunk-preserved
loop-chunk-preserved c = record {
  count = search rules;
  room = search rules;
  each = one_more_begun c.args.table.now c.args.own.now c.args.chunks.now c.loop-chunk.blocks.items c.push_reserved.new.self.items c.loop-chunk.chunk-index c.args.width c.in_ok-new.field-0
      c.loop-chunk.invariant.count (search rules) c.requires.wide c.in_ok-new.ensures c.loop-chunk.invariant.each;
}
