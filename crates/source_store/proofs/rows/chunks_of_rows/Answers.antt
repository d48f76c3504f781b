use Rattle.std.proofs.Common.{◌∙◌, subst, get_or}
use Rattle.sky_row.specs.Columns.{no_row}
use Rattle.source_store.specs.RowChunks.{IsChunkOf}
use Rattle.source_store.proofs.RowChunks.{rows_more}
use Rattle.source_store.proofs.rows.chunks_of_rows.Goals as goal

pub loop-row-preserved : goal.loop-row-preserved
loop-row-preserved c =
    let g = c.args.plan.now in
    let one : IsChunkOf g (get_or c.args.rows.now.objects c.loop-row.row no_row).at c.chunk_of.result =
    subst (λ p. IsChunkOf g p c.chunk_of.result) c.position-at.ensures.value (record {
      there = c.chunk_of.ensures.there;
      holds = c.chunk_of.ensures.holds;
      only = c.chunk_of.ensures.only;
    })
    in
    record {
      are = rows_more g c.args.rows.now.objects c.loop-row.row c.loop-row.chunks.items c.push_reserved.new.self.items c.chunk_of.result
          c.loop-row.invariant.are c.push_reserved.ensures.items one;
      room = c.push_reserved.ensures.capacity ∙ c.loop-row.invariant.room;
    }
