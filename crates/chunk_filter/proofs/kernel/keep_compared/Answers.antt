use Rattle.std.proofs.Common.{refl, rules, w32, w64, FitsSigned}
use Rattle.std.proofs.lemmas.Int.{to_z-of_z}
use Rattle.chunk_filter.specs.Asking.{is_compared}
use Rattle.chunk_filter.proofs.Kernels.{first_told, id_compared, part_compared}
use Rattle.chunk_filter.proofs.kernel.keep_compared.Goals as goal

pub returns-in-0-clause-each : goal.returns-in-0-clause-each
returns-in-0-clause-each c =
    let fits_n : FitsSigned w64 c.args.n = search rules in
    let kept = simp (to_z-of_z w64 c.args.n fits_n) at c.keep.ensures.each in
    first_told (is_compared c.args.op c.args.n) (λ o. o.id) c.args.block.now.objects c.args.col 0 c.args.mask.now c.keep.new.mask c.in-0.is (λ o. refl)
    (id_compared (λ o. o.id) c.args.block.now.objects c.ids.result.now c.args.op c.args.n c.args.mask.now c.keep.new.mask c.ids.ensures c.requires.rows kept)

pub returns-in-1-clause-each : goal.returns-in-1-clause-each
returns-in-1-clause-each c =
    let fits : FitsSigned w32 c.narrow.result = search rules in
    let fits_n : FitsSigned w64 c.args.n = search rules in
    let kept = simp (to_z-of_z w32 c.narrow.result fits) at c.keep_narrow.ensures.each in
    let same = simp (to_z-of_z w64 c.args.n fits_n) at c.narrow.ensures.compares in
    first_told (is_compared c.args.op c.args.n) (λ o. o.at.x) c.args.block.now.objects c.args.col 1 c.args.mask.now c.keep_narrow.new.mask c.in-1.is (λ o. refl)
    (part_compared (λ o. o.at.x) c.args.block.now.objects c.xs.result.now c.args.op c.args.n c.narrow.result c.args.mask.now c.keep_narrow.new.mask
    c.xs.ensures.value c.requires.rows c.xs.ensures.within same kept)

pub returns-in-2-clause-each : goal.returns-in-2-clause-each
returns-in-2-clause-each c =
    let fits : FitsSigned w32 c.narrow-in-2.result = search rules in
    let fits_n : FitsSigned w64 c.args.n = search rules in
    let kept = simp (to_z-of_z w32 c.narrow-in-2.result fits) at c.keep_narrow-in-2.ensures.each in
    let same = simp (to_z-of_z w64 c.args.n fits_n) at c.narrow-in-2.ensures.compares in
    first_told (is_compared c.args.op c.args.n) (λ o. o.at.y) c.args.block.now.objects c.args.col 2 c.args.mask.now c.keep_narrow-in-2.new.mask c.in-2.is (λ o. refl)
    (part_compared (λ o. o.at.y) c.args.block.now.objects c.ys.result.now c.args.op c.args.n c.narrow-in-2.result c.args.mask.now c.keep_narrow-in-2.new.mask
    c.ys.ensures.value c.requires.rows c.ys.ensures.within same kept)

pub returns-in-3-clause-each : goal.returns-in-3-clause-each
returns-in-3-clause-each c =
    let fits : FitsSigned w32 c.narrow-in-3.result = search rules in
    let fits_n : FitsSigned w64 c.args.n = search rules in
    let kept = simp (to_z-of_z w32 c.narrow-in-3.result fits) at c.keep_narrow-in-3.ensures.each in
    let same = simp (to_z-of_z w64 c.args.n fits_n) at c.narrow-in-3.ensures.compares in
    first_told (is_compared c.args.op c.args.n) (λ o. o.at.z) c.args.block.now.objects c.args.col 3 c.args.mask.now c.keep_narrow-in-3.new.mask c.in-3.is (λ o. refl)
    (part_compared (λ o. o.at.z) c.args.block.now.objects c.zs.result.now c.args.op c.args.n c.narrow-in-3.result c.args.mask.now c.keep_narrow-in-3.new.mask
    c.zs.ensures.value c.requires.rows c.zs.ensures.within same kept)
