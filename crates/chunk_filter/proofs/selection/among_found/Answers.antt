use Rattle.std.proofs.Common.{◌∙◌, Bool, List, ap, set, true}
use Rattle.chunk_filter.proofs.IdTests.{found_below, found_done, found_selection}
use Rattle.chunk_filter.proofs.Places.{there_places}
use Rattle.chunk_filter.proofs.selection.among_found.Goals as goal

pub keep_all-requires-clause-there : goal.keep_all-requires-clause-there
keep_all-requires-clause-there c =
    found_below c.args.conds.now c.args.block.now.objects c.args.i c.args.c.now c.args.found.items c.requires.at c.requires.found

pub keep_all-requires-clause-done : goal.keep_all-requires-clause-done
keep_all-requires-clause-done c =
    found_done c.args.conds.now c.args.block.now.objects c.args.i c.args.c.now c.args.found.items c.as_slice.result.now c.requires.at c.requires.found
    (c.as_slice.ensures.value ∙ ap (λ (l : List Bool). set l c.args.i true) c.in_ok-done.ensures)

pub returns-clause-value : goal.returns-clause-value
returns-clause-value c =
    found_selection c.args.conds.now c.args.block.now.objects c.args.i c.args.c.now c.args.found.items c.keep_all.new.places.items c.requires.at
    c.requires.found c.in_ok-keep_all.ensures

pub returns-clause-there : goal.returns-clause-there
returns-clause-there c = there_places c.args.conds.now c.args.block.now.objects c.keep_all.new.places.items (returns-clause-value c)
