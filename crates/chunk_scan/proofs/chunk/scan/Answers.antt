use Rattle.std.proofs.Common.{◌∙◌, ◌+◌, ◌<◌, ℕ, arith, ap, length, sym, subst}
use Rattle.std.specs.Prelude.{All}
use Rattle.column_block.specs.Blocks.{Stored}
use Rattle.chunk_store.proofs.ChunkBlocks.{chunk_taken}
use Rattle.answer_rules.specs.SoundChunks.{IsSoundChunk}
use Rattle.chunk_filter.specs.Selection.{selection}
use Rattle.chunk_filter.proofs.Found.{block_ascends, block_few, places_few}
use Rattle.chunk_scan.proofs.Scanned.{scanned}
use Rattle.chunk_scan.proofs.chunk.scan.Goals as goal

pub selection-requires-clause-few : goal.selection-requires-clause-few
selection-requires-clause-few c =
    let g = c.args.store.now.plan in
    let objects = c.args.store.now.rows.objects in
    let block = c.block-block.result.now.objects in
    let few = block_few g objects c.args.chunk block (c.block-block.ensures.places ∙ chunk_taken g objects c.args.chunk) c.know.ensures.few in
    omega (arith, few)

pub selection-requires-clause-ascend : goal.selection-requires-clause-ascend
selection-requires-clause-ascend c =
    let g = c.args.store.now.plan in
    let objects = c.args.store.now.rows.objects in
    block_ascends g objects c.args.chunk c.block-block.result.now.objects (c.block-block.ensures.places ∙ chunk_taken g objects c.args.chunk) c.know.ensures.ascend

pub piece_at-requires-clause-small : goal.piece_at-requires-clause-small
piece_at-requires-clause-small c =
    let g = c.args.store.now.plan in
    let objects = c.args.store.now.rows.objects in
    let block = c.block-block.result.now.objects in
    let few = block_few g objects c.args.chunk block (c.block-block.ensures.places ∙ chunk_taken g objects c.args.chunk) c.know.ensures.few in
    omega (arith, few)

pub piece_at-requires-clause-few : goal.piece_at-requires-clause-few
piece_at-requires-clause-few c =
    let g = c.args.store.now.plan in
    let objects = c.args.store.now.rows.objects in
    let block = c.block-block.result.now.objects in
    let few = block_few g objects c.args.chunk block (c.block-block.ensures.places ∙ chunk_taken g objects c.args.chunk) c.know.ensures.few in
    let less = places_few c.args.query.now.conds block c.as_slice-2.result.now (c.as_slice-2.ensures.value ∙ (c.in_ok-places.ensures.value ∙ ap (λ conds. selection conds block) c.as_slice.ensures)) in
    omega (arith, few, less)

pub piece_at-requires-clause-there : goal.piece_at-requires-clause-there
piece_at-requires-clause-there c =
    let block = c.block-block.result.now.objects in
    subst (All (λ i. i < length block)) (sym c.as_slice-2.ensures.value) c.in_ok-places.ensures.there

pub returns : goal.returns
returns c =
    let g = c.args.store.now.plan in
    let objects = c.args.store.now.rows.objects in
    let cq = c.args.query.now in
    let block = c.block-block.result.now.objects in
    let places = c.as_slice-2.result.now in
    scanned g objects cq c.args.chunk block places c.in_ok-piece.piece c.know.ensures.plan c.know.ensures.rows c.requires.there c.requires.rows
    (c.block-block.ensures.places ∙ chunk_taken g objects c.args.chunk)
    (c.as_slice-2.ensures.value ∙ (c.in_ok-places.ensures.value ∙ ap (λ conds. selection conds block) c.as_slice.ensures))
    c.in_ok-piece.ensures

pub piece_at-requires-clause-sound : goal.piece_at-requires-clause-sound
piece_at-requires-clause-sound c =
    subst (λ (width : ℕ). IsSoundChunk (4 + width) c.args.query.now) (sym (ap (λ (s : Stored). s.width) c.block-block.ensures.value)) c.requires.sound
