use Rattle.std.proofs.Common.{◌∙◌, ◌<◌, ◌≤◌, ap, arith, rules, length, get_or, nat_abs, pos, sym, subst, FitsSigned}
use Rattle.std.specs.Int.{w128}
use Rattle.std.proofs.lemmas.Int.{to_z-of_z}
use Rattle.std.proofs.lemmas.List.{length-set}
use Rattle.column_vectors.specs.declared.join.TheConstants.{WIDE_MOST}
use Rattle.column_vectors.proofs.Masked.{joined_more, rest_kept}
use Rattle.column_vectors.proofs.join.each_wide.Goals as goal

pub wide-requires : goal.wide-requires
wide-requires g c =
    let low : c.loop-i.i < length c.args.right.now = search rules in
    let same = c.loop-i.invariant.rest c.loop-i.i (omega arith) in
    let fits : FitsSigned w128 (get_or c.args.left.now c.loop-i.i (pos 0)) = search rules in
    let fits_left : FitsSigned w128 (get_or c.loop-i.left c.loop-i.i (pos 0)) = subst (FitsSigned w128) (sym same) fits in
    let fits_right : FitsSigned w128 (get_or c.args.right.now c.loop-i.i (pos 0)) = search rules in
    let own : nat_abs (g.J.Join.joins (get_or c.args.left.now c.loop-i.i (pos 0)) (get_or c.args.right.now c.loop-i.i (pos 0))) ≤ WIDE_MOST =
    omega (arith, c.requires.fits c.loop-i.i (omega (arith, low, c.requires.count))) in
    simp (to_z-of_z w128 _ fits_left, to_z-of_z w128 _ fits_right) (rw same own)

pub loop-i-preserved : goal.loop-i-preserved
loop-i-preserved g c =
    let low : c.loop-i.i < length c.args.right.now = search rules in
    let there : c.loop-i.i < length c.loop-i.left = omega (arith, low, c.loop-i.invariant.count, c.requires.count) in
    let same = c.loop-i.invariant.rest c.loop-i.i (omega arith) in
    let fits : FitsSigned w128 (get_or c.args.left.now c.loop-i.i (pos 0)) = search rules in
    let fits_left : FitsSigned w128 (get_or c.loop-i.left c.loop-i.i (pos 0)) = subst (FitsSigned w128) (sym same) fits in
    let fits_right : FitsSigned w128 (get_or c.args.right.now c.loop-i.i (pos 0)) = search rules in
    let fits_made : FitsSigned w128 c.wide.result = search rules in
    let own = simp (to_z-of_z w128 _ fits_left, to_z-of_z w128 _ fits_right) at c.wide.ensures in
    record {
      count = length-set c.loop-i.left c.loop-i.i _ ∙ c.loop-i.invariant.count;
      joined = joined_more g.J.Join.joins c.args.left.now c.args.right.now c.loop-i.left c.loop-i.i _ there c.loop-i.invariant.joined
          (to_z-of_z w128 _ fits_made ∙ (own ∙ ap (λ x. g.J.Join.joins x (get_or c.args.right.now c.loop-i.i (pos 0))) same));
      rest = rest_kept c.args.left.now c.loop-i.left c.loop-i.i _ c.loop-i.invariant.rest;
    }
