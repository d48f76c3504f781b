use Rattle.std.proofs.Common.{rules, w64, FitsSigned}
use Rattle.std.proofs.lemmas.Int.{to_z-of_z}
use Rattle.source_filter.proofs.Keeping.{compare_narrows, range_narrows}
use Rattle.source_filter.proofs.kernel.keep_numbers.Goals as goal

pub returns-in-Compare : goal.returns-in-Compare
returns-in-Compare c =
    let fits : FitsSigned w64 c.in-Compare.n = search rules in
    let kept = simp (to_z-of_z w64 c.in-Compare.n fits) at c.keep.ensures.each in
    compare_narrows c.args.test c.in-Compare.op c.in-Compare.n c.args.numbers.now c.args.mask.now c.keep.new.mask c.in-Compare.is c.keep.ensures.len kept

pub returns-in-Range : goal.returns-in-Range
returns-in-Range c =
    let fits_low : FitsSigned w64 c.in-Range.low = search rules in
    let fits_high : FitsSigned w64 c.in-Range.high = search rules in
    let kept = simp (to_z-of_z w64 c.in-Range.low fits_low, to_z-of_z w64 c.in-Range.high fits_high) at c.keep_between.ensures.each in
    range_narrows c.args.test c.in-Range.low c.in-Range.high c.args.numbers.now c.args.mask.now c.keep_between.new.mask c.in-Range.is c.keep_between.ensures.len kept
