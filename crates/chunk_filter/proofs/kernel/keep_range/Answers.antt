use Rattle.std.proofs.Common.{refl, rules, w32, w64, FitsSigned}
use Rattle.std.proofs.lemmas.Int.{to_z-of_z}
use Rattle.chunk_filter.specs.Asking.{is_in_range}
use Rattle.chunk_filter.proofs.Kernels.{first_told, id_ranged, part_ranged}
use Rattle.chunk_filter.proofs.kernel.keep_range.Goals as goal

pub returns-in-0-clause-each : goal.returns-in-0-clause-each
returns-in-0-clause-each c =
    let fits_a : FitsSigned w64 c.args.low = search rules in
    let fits_b : FitsSigned w64 c.args.high = search rules in
    let kept = simp (to_z-of_z w64 c.args.low fits_a, to_z-of_z w64 c.args.high fits_b) at c.keep_between.ensures.each in
    first_told (is_in_range c.args.low c.args.high) (λ o. o.id) c.args.block.now.objects c.args.col 0 c.args.mask.now c.keep_between.new.mask c.in-0.is (λ o. refl)
    (id_ranged (λ o. o.id) c.args.block.now.objects c.ids.result.now c.args.low c.args.high c.args.mask.now c.keep_between.new.mask c.ids.ensures c.requires.rows kept)

pub returns-in-1-clause-each : goal.returns-in-1-clause-each
returns-in-1-clause-each c =
    let fits_p : FitsSigned w32 c.narrow.result = search rules in
    let fits_q : FitsSigned w32 c.narrow-in-1.result = search rules in
    let fits_a : FitsSigned w64 c.args.low = search rules in
    let fits_b : FitsSigned w64 c.args.high = search rules in
    let kept = simp (to_z-of_z w32 c.narrow.result fits_p, to_z-of_z w32 c.narrow-in-1.result fits_q) at c.keep_between_narrow.ensures.each in
    let from = simp (to_z-of_z w64 c.args.low fits_a) at c.narrow.ensures.from in
    let to = simp (to_z-of_z w64 c.args.high fits_b) at c.narrow-in-1.ensures.to in
    first_told (is_in_range c.args.low c.args.high) (λ o. o.at.x) c.args.block.now.objects c.args.col 1 c.args.mask.now c.keep_between_narrow.new.mask c.in-1.is (λ o. refl)
    (part_ranged (λ o. o.at.x) c.args.block.now.objects c.xs.result.now c.args.low c.args.high c.narrow.result c.narrow-in-1.result c.args.mask.now
    c.keep_between_narrow.new.mask c.xs.ensures.value c.requires.rows c.xs.ensures.within from to kept)

pub returns-in-2-clause-each : goal.returns-in-2-clause-each
returns-in-2-clause-each c =
    let fits_p : FitsSigned w32 c.narrow-in-2.result = search rules in
    let fits_q : FitsSigned w32 c.narrow-in-2-2.result = search rules in
    let fits_a : FitsSigned w64 c.args.low = search rules in
    let fits_b : FitsSigned w64 c.args.high = search rules in
    let kept = simp (to_z-of_z w32 c.narrow-in-2.result fits_p, to_z-of_z w32 c.narrow-in-2-2.result fits_q) at c.keep_between_narrow-in-2.ensures.each in
    let from = simp (to_z-of_z w64 c.args.low fits_a) at c.narrow-in-2.ensures.from in
    let to = simp (to_z-of_z w64 c.args.high fits_b) at c.narrow-in-2-2.ensures.to in
    first_told (is_in_range c.args.low c.args.high) (λ o. o.at.y) c.args.block.now.objects c.args.col 2 c.args.mask.now c.keep_between_narrow-in-2.new.mask c.in-2.is (λ o. refl)
    (part_ranged (λ o. o.at.y) c.args.block.now.objects c.ys.result.now c.args.low c.args.high c.narrow-in-2.result c.narrow-in-2-2.result c.args.mask.now
    c.keep_between_narrow-in-2.new.mask c.ys.ensures.value c.requires.rows c.ys.ensures.within from to kept)

pub returns-in-3-clause-each : goal.returns-in-3-clause-each
returns-in-3-clause-each c =
    let fits_p : FitsSigned w32 c.narrow-in-3.result = search rules in
    let fits_q : FitsSigned w32 c.narrow-in-3-2.result = search rules in
    let fits_a : FitsSigned w64 c.args.low = search rules in
    let fits_b : FitsSigned w64 c.args.high = search rules in
    let kept = simp (to_z-of_z w32 c.narrow-in-3.result fits_p, to_z-of_z w32 c.narrow-in-3-2.result fits_q) at c.keep_between_narrow-in-3.ensures.each in
    let from = simp (to_z-of_z w64 c.args.low fits_a) at c.narrow-in-3.ensures.from in
    let to = simp (to_z-of_z w64 c.args.high fits_b) at c.narrow-in-3-2.ensures.to in
    first_told (is_in_range c.args.low c.args.high) (λ o. o.at.z) c.args.block.now.objects c.args.col 3 c.args.mask.now c.keep_between_narrow-in-3.new.mask c.in-3.is (λ o. refl)
    (part_ranged (λ o. o.at.z) c.args.block.now.objects c.zs.result.now c.args.low c.args.high c.narrow-in-3.result c.narrow-in-3-2.result c.args.mask.now
    c.keep_between_narrow-in-3.new.mask c.zs.ensures.value c.requires.rows c.zs.ensures.within from to kept)
