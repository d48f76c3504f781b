use Rattle.std.proofs.Common.{◌≡◌, ◌<◌, ap, rules, length, get_or, pos, subst, ◌∙◌, w64, FitsSigned}
use Rattle.std.proofs.lemmas.Int.{to_z-of_z}
use Rattle.std.proofs.lemmas.List.{get_or-map}
use Rattle.std.proofs.lemmas.Option.{slice_get-get_or}
use Rattle.source_row.specs.SourceColumns.{no_source}
use Rattle.source_store.specs.NumbersByChunk.{LeadsTo}
use Rattle.source_store.proofs.Listing.{lists_more}
use Rattle.source_store.proofs.fill.numbers_by_chunk.Goals as goal

pub loop-place-preserved : goal.loop-place-preserved
loop-place-preserved c =
    let g = c.args.index.now.plan in
    let objects = c.args.index.now.rows in
    let sources = c.args.sources.now.sources in
    let place = c.loop-place.place in
    let source = get_or sources place no_source in
    let low : place < length sources = search rules in
    let same : get_or c.objects.result.now place (pos 0) ≡ source.object =
    ap (λ l. get_or l place (pos 0)) c.objects.ensures ∙ get_or-map (λ s. s.object) sources place no_source (pos 0) low in
    let id = get_or c.objects.result.now place (pos 0) in
    let fits : FitsSigned w64 id = search rules in
    let leads = subst (λ id. LeadsTo g objects id c.chunk_of-chunk.result) same (simp (to_z-of_z w64 id fits) at c.chunk_of-chunk.ensures) in
    lists_more g objects sources place c.chunk_of-chunk.result source c.loop-place.lists c.push.new.lists
    (slice_get-get_or sources place no_source low) leads c.loop-place.invariant c.in_ok-push.ensures
