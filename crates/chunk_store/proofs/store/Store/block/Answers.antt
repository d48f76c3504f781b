use Rattle.std.proofs.Common.{◌≡◌, map, subst}
use Rattle.chunk_rules.specs.Filled.{filled_chunks}
use Rattle.chunk_store.specs.Places.{chunk_block}
use Rattle.chunk_store.specs.Survey.{Survey}
use Rattle.chunk_store.proofs.ChunkBlocks.{block_at_slot, block_places}
use Rattle.chunk_store.proofs.store.Store.block.Goals as goal

pub returns-clause-places : goal.returns-clause-places
returns-clause-places c =
    let g = c.args.self.now.plan in
    let table = c.args.self.now.rows in
    let columns = c.self.inside.blocks.items in
    let stored = subst (λ (s : Survey). columns ≡ map (chunk_block s.plan s.rows) (filled_chunks s.plan s.rows.objects)) c.self.view_is c.self.invariant.blocks in
    block_places g table c.args.chunk c.index.result.now
    (block_at_slot g table columns c.slot.result c.args.chunk c.index.result.now stored c.slot.ensures.there c.slot.ensures.is c.index.ensures)
