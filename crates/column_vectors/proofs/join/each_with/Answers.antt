use Rattle.std.proofs.Common.{◌∙◌, ◌<◌, ap, arith, rules, length, get_or, pos, replicate, sym, subst, FitsSigned, w64, to_z, of_z}
use Rattle.std.proofs.lemmas.Int.{to_z-of_z}
use Rattle.std.proofs.lemmas.List.{get_or-replicate, length-replicate, length-set}
use Rattle.column_vectors.proofs.Masked.{joined_more, rest_kept}
use Rattle.column_vectors.proofs.join.each_with.Goals as goal

pub loop-i-preserved : goal.loop-i-preserved
loop-i-preserved g c =
    let n = to_z w64 (of_z w64 c.args.n) in
    let low : c.loop-i.i < c.args.count = search rules in
    let there : c.loop-i.i < length c.loop-i.left =
    omega (arith, low, c.loop-i.invariant.count, c.requires.count, length-replicate c.args.count c.args.n) in
    let same = c.loop-i.invariant.rest c.loop-i.i (omega arith) in
    let fits : FitsSigned w64 (get_or c.args.left.now c.loop-i.i (pos 0)) = search rules in
    let fits_left : FitsSigned w64 (get_or c.loop-i.left c.loop-i.i (pos 0)) = subst (FitsSigned w64) (sym same) fits in
    let fits_made : FitsSigned w64 c.narrow.result = search rules in
    let own = simp (to_z-of_z w64 _ fits_left) at c.narrow.ensures in
    record {
      count = length-set c.loop-i.left c.loop-i.i _ ∙ c.loop-i.invariant.count;
      joined = joined_more g.J.Join.joins c.args.left.now (replicate c.args.count n) c.loop-i.left c.loop-i.i _ there c.loop-i.invariant.joined
          (to_z-of_z w64 _ fits_made ∙ (own ∙ (ap (λ x. g.J.Join.joins x n) same
          ∙ ap (g.J.Join.joins (get_or c.args.left.now c.loop-i.i (pos 0))) (sym (get_or-replicate c.args.count c.loop-i.i n (pos 0) low)))));
      rest = rest_kept c.args.left.now c.loop-i.left c.loop-i.i _ c.loop-i.invariant.rest;
    }
