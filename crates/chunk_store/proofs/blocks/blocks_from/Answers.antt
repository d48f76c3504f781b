use Rattle.std.proofs.Common.{◌≡◌, ◌∷◌, ◌∙◌, ◌<◌, ◌+◌, ap, arith, get_or, [], rules, length}
use Rattle.std.specs.Vec.Iter.{into_iter_items}
use Rattle.sky_row.specs.Columns.{objects_at}
use Rattle.column_lists.proofs.Rowed.{places_there}
use Rattle.column_block.proofs.Storing.{stored_same}
use Rattle.chunk_store.specs.Lists.{block_at}
use Rattle.chunk_store.proofs.Begun.{next_begun, next_block, this_begun}
use Rattle.chunk_store.proofs.blocks.blocks_from.Goals as goal

pub begun_blocks-requires-clause-there : goal.begun_blocks-requires-clause-there
begun_blocks-requires-clause-there c =
    λ k d low. places_there c.lists-table.result.now c.args.rows.now.objects (get_or c.args.own.now k d) c.lists-table.ensures.objects (c.requires.there k d low)

pub finished-requires-clause-places : goal.finished-requires-clause-places
finished-requires-clause-places c =
    λ k d low. places_there c.lists-table.result.now c.args.rows.now.objects (get_or c.args.own.now k d) c.lists-table.ensures.objects (c.requires.there k d low)

pub finished-requires-clause-begun : goal.finished-requires-clause-begun
finished-requires-clause-begun c =
    let next : into_iter_items c.loop-lists.lists-iterator ≡ c.in-Some.lists ∷ into_iter_items c.next.new.self = search rules in
    let here : c.len.result ≡ length c.loop-lists.blocks.items = search rules in
    this_begun _ c.args.own.now c.args.chunks.now _ _ _ _ _ here next c.loop-lists.invariant.begun

pub loop-lists-preserved : goal.loop-lists-preserved
loop-lists-preserved c =
    let next : into_iter_items c.loop-lists.lists-iterator ≡ c.in-Some.lists ∷ into_iter_items c.next.new.self = search rules in
    let here : c.len.result ≡ length c.loop-lists.blocks.items = search rules in
    let more : length c.push_reserved.new.self.items ≡ length c.loop-lists.blocks.items + 1 = search rules in
    let low : length c.loop-lists.blocks.items < length c.args.chunks.now = omega (arith, c.loop-lists.invariant.count, ap length next) in
    let own : c.in_ok-block.block ≡ block_at c.args.rows.now (get_or c.args.own.now (get_or c.args.chunks.now (length c.loop-lists.blocks.items) 0) []) =
    c.in_ok-block.ensures
    ∙ (stored_same _ _ _ _ c.lists-table.ensures.width (ap (λ objects. objects_at objects (get_or c.args.own.now (get_or c.args.chunks.now c.len.result 0) [])) c.lists-table.ensures.objects)
    ∙ ap (λ n. block_at c.args.rows.now (get_or c.args.own.now (get_or c.args.chunks.now n 0) [])) here) in
    record {
      len = search rules;
      count = omega (arith, c.loop-lists.invariant.count, ap length next, more);
      room = search rules;
      begun = next_begun _ c.args.own.now c.args.chunks.now _ _ _ _ _ more next c.loop-lists.invariant.begun;
      rest = next_block (λ chunk. block_at c.args.rows.now (get_or c.args.own.now chunk [])) c.loop-lists.blocks.items c.push_reserved.new.self.items _ c.args.chunks.now c.in_ok-block.block low own (search rules) c.loop-lists.invariant.rest;
    }
