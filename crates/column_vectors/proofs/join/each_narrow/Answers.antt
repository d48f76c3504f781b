use Rattle.std.proofs.Common.{◌∙◌, ◌<◌, ap, arith, rules, length, get_or, pos, sym, subst, FitsSigned, w64}
use Rattle.std.proofs.lemmas.Int.{to_z-of_z}
use Rattle.std.proofs.lemmas.List.{length-set}
use Rattle.column_vectors.proofs.Masked.{joined_more, rest_kept}
use Rattle.column_vectors.proofs.join.each_narrow.Goals as goal

pub narrow-requires : goal.narrow-requires
narrow-requires g c =
    let low : c.loop-i.i < length c.args.right.now = search rules in
    let same = c.loop-i.invariant.rest c.loop-i.i (omega arith) in
    let fits : FitsSigned w64 (get_or c.args.left.now c.loop-i.i (pos 0)) = search rules in
    let fits_left : FitsSigned w64 (get_or c.loop-i.left c.loop-i.i (pos 0)) = subst (FitsSigned w64) (sym same) fits in
    let fits_right : FitsSigned w64 (get_or c.args.right.now c.loop-i.i (pos 0)) = search rules in
    let own = c.requires.fits c.loop-i.i (omega (arith, low, c.requires.count)) in
    simp (to_z-of_z w64 _ fits_left, to_z-of_z w64 _ fits_right) (rw same own)

pub loop-i-preserved : goal.loop-i-preserved
loop-i-preserved g c =
    let low : c.loop-i.i < length c.args.right.now = search rules in
    let there : c.loop-i.i < length c.loop-i.left = omega (arith, low, c.loop-i.invariant.count, c.requires.count) in
    let same = c.loop-i.invariant.rest c.loop-i.i (omega arith) in
    let fits : FitsSigned w64 (get_or c.args.left.now c.loop-i.i (pos 0)) = search rules in
    let fits_left : FitsSigned w64 (get_or c.loop-i.left c.loop-i.i (pos 0)) = subst (FitsSigned w64) (sym same) fits in
    let fits_right : FitsSigned w64 (get_or c.args.right.now c.loop-i.i (pos 0)) = search rules in
    let fits_made : FitsSigned w64 c.narrow.result = search rules in
    let own = simp (to_z-of_z w64 _ fits_left, to_z-of_z w64 _ fits_right) at c.narrow.ensures in
    record {
      count = length-set c.loop-i.left c.loop-i.i _ ∙ c.loop-i.invariant.count;
      joined = joined_more g.J.Join.joins c.args.left.now c.args.right.now c.loop-i.left c.loop-i.i _ there c.loop-i.invariant.joined
          (to_z-of_z w64 _ fits_made ∙ (own ∙ ap (λ x. g.J.Join.joins x (get_or c.args.right.now c.loop-i.i (pos 0))) same));
      rest = rest_kept c.args.left.now c.loop-i.left c.loop-i.i _ c.loop-i.invariant.rest;
    }
