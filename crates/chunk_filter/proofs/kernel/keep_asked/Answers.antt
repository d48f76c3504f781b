use Rattle.std.proofs.Common.{rules, sym, subst, w64, FitsSigned, get_or}
use Rattle.std.proofs.lemmas.Int.{to_z-of_z}
use Rattle.lane_filter.specs.Tests.{IsKeptBy}
use Rattle.sky_row.specs.Columns.{no_row}
use Rattle.chunk_filter.specs.Asking.{asks}
use Rattle.chunk_filter.proofs.Kernels.{near_told}
use Rattle.chunk_filter.proofs.kernel.keep_asked.Goals as goal

pub returns-in-Compare-clause-each : goal.returns-in-Compare-clause-each
returns-in-Compare-clause-each c =
    let fits : FitsSigned w64 c.in-Compare.n = search rules in
    let kept = simp (to_z-of_z w64 c.in-Compare.n fits) at c.keep_compared.ensures.each in
    subst (λ t. IsKeptBy (λ k. asks t (get_or c.args.block.now.objects k no_row)) c.args.mask.now c.keep_compared.new.mask)
    (sym c.in-Compare.is) kept

pub returns-in-Range-clause-each : goal.returns-in-Range-clause-each
returns-in-Range-clause-each c =
    let fits_a : FitsSigned w64 c.in-Range.low = search rules in
    let fits_b : FitsSigned w64 c.in-Range.high = search rules in
    let kept = simp (to_z-of_z w64 c.in-Range.low fits_a, to_z-of_z w64 c.in-Range.high fits_b) at c.keep_range.ensures.each in
    subst (λ t. IsKeptBy (λ k. asks t (get_or c.args.block.now.objects k no_row)) c.args.mask.now c.keep_range.new.mask)
    (sym c.in-Range.is) kept

pub returns-in-Near-clause-each : goal.returns-in-Near-clause-each
returns-in-Near-clause-each c =
    subst (λ t. IsKeptBy (λ k. asks t (get_or c.args.block.now.objects k no_row)) c.args.mask.now c.keep_near.new.mask)
    (sym c.in-Near.is)
    (near_told c.args.block.now.objects c.in-Near.centre c.in-Near.n c.get.result c.xs.result.now c.ys.result.now c.zs.result.now
    c.args.mask.now c.keep_near.new.mask c.xs.ensures.value c.ys.ensures.value c.zs.ensures.value c.requires.rows c.get.ensures.value
    c.keep_near.ensures.each)
