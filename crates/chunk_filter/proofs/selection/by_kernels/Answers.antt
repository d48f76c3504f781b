use Rattle.std.proofs.Common.{◌∙◌, ◌<◌, ap, filter, length, subst, sym}
use Rattle.std.specs.Prelude.{All}
use Rattle.lane_filter.specs.Tests.{places_of}
use Rattle.chunk_filter.specs.Selection.{AreDone, meets_at}
use Rattle.chunk_filter.proofs.Places.{done_at_places, places_below, selection_places, there_places, written_whole}
use Rattle.chunk_filter.proofs.selection.by_kernels.Goals as goal

pub keep_all-requires-clause-there : goal.keep_all-requires-clause-there
keep_all-requires-clause-there c =
    subst (All (λ place. place < length c.args.block.now.objects)) (sym (c.in_ok-places.ensures ∙ ap places_of (c.as_slice.ensures.value
    ∙ written_whole c.in_ok-mask.mask.items c.narrow_all.new.mask c.in_ok-mask.mask.len (c.in_ok-done.ensures.len ∙ c.as_mut_slice.ensures.len))))
    (places_below c.args.conds.now c.args.block.now.objects c.in_ok-done.done.items c.narrow_all.new.mask c.in_ok-done.ensures.narrowed)

pub keep_all-requires-clause-done : goal.keep_all-requires-clause-done
keep_all-requires-clause-done c =
    subst (λ flags. AreDone c.args.conds.now c.args.block.now.objects flags c.in_ok-places.places.items) (sym c.as_slice-2.ensures.value)
    (subst (AreDone c.args.conds.now c.args.block.now.objects c.in_ok-done.done.items)
    (sym (c.in_ok-places.ensures ∙ ap places_of (c.as_slice.ensures.value
    ∙ written_whole c.in_ok-mask.mask.items c.narrow_all.new.mask c.in_ok-mask.mask.len (c.in_ok-done.ensures.len ∙ c.as_mut_slice.ensures.len))))
    (done_at_places c.args.conds.now c.args.block.now.objects c.in_ok-done.done.items c.narrow_all.new.mask c.in_ok-done.ensures.narrowed))

pub returns-clause-value : goal.returns-clause-value
returns-clause-value c =
    c.in_ok-keep_all.ensures
    ∙ (ap (filter (meets_at c.args.conds.now c.args.block.now.objects)) (c.in_ok-places.ensures ∙ ap places_of (c.as_slice.ensures.value
    ∙ written_whole c.in_ok-mask.mask.items c.narrow_all.new.mask c.in_ok-mask.mask.len (c.in_ok-done.ensures.len ∙ c.as_mut_slice.ensures.len)))
    ∙ selection_places c.args.conds.now c.args.block.now.objects c.in_ok-done.done.items c.narrow_all.new.mask c.in_ok-done.ensures.narrowed)

pub returns-clause-there : goal.returns-clause-there
returns-clause-there c = there_places c.args.conds.now c.args.block.now.objects c.keep_all.new.places.items (returns-clause-value c)
