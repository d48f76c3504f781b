use Rattle.std.proofs.Common.{◌+◌, ◌<◌, ◌∷◌, [], length, get_or, subst, IsTrue, rules}
use Rattle.std.proofs.lemmas.Option.{slice_get-get_or}
use Rattle.sky_vector.specs.Points.{Point}
use Rattle.sky_row.specs.Columns.{no_row}
use Rattle.sky_rules.specs.Partition.{chunk_count}
use Rattle.sky_rules.specs.Bounds.{in_chunk}
use Rattle.sky_plan.specs.Places.{IsOnlyChunk}
use Rattle.overlap_tables.specs.Overlaps.{near_others}
use Rattle.chunk_store.specs.Lists.{Pushed, own_test, overlap_test}
use Rattle.chunk_store.proofs.Pushing.{lists_more, near_often, own_often}
use Rattle.chunk_store.proofs.fill.range_lists.Goals as goal

pub push_near-requires-clause-own : goal.push_near-requires-clause-own
push_near-requires-clause-own c = record { holds = c.chunk_in-chunk.ensures.holds; only = c.chunk_in-chunk.ensures.only }

pub push_near-requires-clause-all : goal.push_near-requires-clause-all
push_near-requires-clause-all c = c.loop-k.invariant.overlap.all

pub loop-k-preserved : goal.loop-k-preserved
loop-k-preserved c =
    let g = c.args.plan.now in
    let objects = c.args.rows.now.objects in
    let from = c.args.from in
    let k = c.loop-k.k in
    let place = from + k in
    let row = get_or objects place no_row in
    let low : place < length objects = search rules in
    let is = slice_get-get_or objects place no_row low in
    let at = c.position-at.ensures.value in
    let d = c.chunk_in-chunk.result in
    let holds = subst (λ (p : Point). IsTrue (in_chunk g d p)) at c.chunk_in-chunk.ensures.holds in
    let only = subst (λ (p : Point). IsOnlyChunk g d p) at c.chunk_in-chunk.ensures.only in
    let near = subst (λ (p : Point). Pushed (near_others g p) place c.loop-k.overlap c.push_near.new.lists) at c.in_ok-push_near.ensures in
    record {
      own = lists_more (own_test g) (chunk_count g) objects from k (d ∷ []) c.loop-k.own c.push.new.self
          c.loop-k.invariant.own c.in_ok-push.ensures (own_often g objects place d row is holds only);
      overlap = lists_more (overlap_test g) (chunk_count g) objects from k (near_others g row.at) c.loop-k.overlap c.push_near.new.lists
          c.loop-k.invariant.overlap near (near_often g objects place row is);
    }
