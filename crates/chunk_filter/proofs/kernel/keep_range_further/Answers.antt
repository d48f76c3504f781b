use Rattle.std.proofs.Common.{rules, subst, w64, FitsSigned, get_or, pos}
use Rattle.std.proofs.lemmas.Int.{to_z-of_z}
use Rattle.lane_filter.specs.Tests.{IsKeptBy, is_from_to}
use Rattle.chunk_filter.proofs.Kernels.{further_ranged}
use Rattle.chunk_filter.proofs.kernel.keep_range_further.Goals as goal

pub returns-clause-each : goal.returns-clause-each
returns-clause-each c =
    let fits_a : FitsSigned w64 c.args.low = search rules in
    let fits_b : FitsSigned w64 c.args.high = search rules in
    let kept = simp (to_z-of_z w64 c.args.low fits_a, to_z-of_z w64 c.args.high fits_b) at c.keep_between.ensures.each in
    further_ranged c.args.column.now c.args.low c.args.high c.args.mask.now c.keep_between.new.mask c.keep_valued.new.mask
    c.requires.rows c.keep_between.ensures.len
    (subst (λ l. IsKeptBy (λ k. is_from_to c.args.low c.args.high (get_or l k (pos 0))) c.args.mask.now c.keep_between.new.mask) c.values.ensures kept)
    c.keep_valued.ensures.each
