use Rattle.std.proofs.Common.{ap, subst, sym, ℕ, ◌<◌, get_or, length, map, [], ◌∙◌}
use Rattle.std.specs.List.{All}
use Rattle.chunk_store.specs.Lists.{block_at}
use Rattle.chunk_store.proofs.ChunkBlocks.{blocks_stored, chunks_there, lists_there}
use Rattle.chunk_store.proofs.Filled.{filled_of}
use Rattle.chunk_store.proofs.store.Store.build.Goals as goal

pub invariant_of-result : goal.invariant_of-result
invariant_of-result g c =
    let sky = c.args.plan in
    let table = c.args.rows in
    let own = c.in_ok-own.own in
    let filled = filled_of sky table.objects own c.in_ok-filled.filled.items c.in_ok-own.ensures.own c.in_ok-filled.ensures in
    let built = c.in_ok-blocks.ensures ∙ ap (map (λ chunk. block_at table (get_or own chunk []))) c.as_slice.ensures.value in
    record {
      sky = c.in_ok-own.ensures.limits;
      own = c.in_ok-own.ensures.own;
      overlap = c.in_ok-own.ensures.overlap;
      filled = filled;
      blocks = blocks_stored sky table own c.in_ok-filled.filled.items c.in_ok-blocks.blocks.items c.in_ok-own.ensures.own filled built;
    }

pub blocks_of-requires-clause-chunks : goal.blocks_of-requires-clause-chunks
blocks_of-requires-clause-chunks g c =
    λ κs outlives.
    subst (All (λ (chunk : ℕ). chunk < length c.in_ok-own.own)) (sym c.as_slice.ensures.value) (chunks_there c.in_ok-own.own c.in_ok-filled.filled.items c.in_ok-filled.ensures)

pub blocks_of-requires-clause-there : goal.blocks_of-requires-clause-there
blocks_of-requires-clause-there g c = λ κs outlives. lists_there c.args.plan c.args.rows.objects c.in_ok-own.own c.in_ok-own.ensures.own
