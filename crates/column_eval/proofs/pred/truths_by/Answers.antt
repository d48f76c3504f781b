use Rattle.std.proofs.Common.{◌≡◌, ◌∙◌, ◌≤◌, ap, sym, subst, get_or, length, pos, rules, FitsSigned}
use Rattle.std.specs.Int.{w128}
use Rattle.std.proofs.lemmas.Int.{to_z-of_z}
use Rattle.value_rules.specs.Truth.{compares}
use Rattle.column_vectors.proofs.Masked.{mask_more}
use Rattle.column_eval.proofs.pred.truths_by.Goals as goal

pub loop-i-preserved : goal.loop-i-preserved
loop-i-preserved c =
    let left : c.from.result ≡ get_or c.args.left.now c.loop-i.i (pos 0) = search rules in
    let right : c.from-in-loop-i.result ≡ get_or c.args.right.now c.loop-i.i (pos 0) = search rules in
    let fits_a : FitsSigned w128 c.from.result = search rules in
    let fits_b : FitsSigned w128 c.from-in-loop-i.result = search rules in
    let own = simp (to_z-of_z w128 c.from.result fits_a, to_z-of_z w128 c.from-in-loop-i.result fits_b) at c.compares.ensures in
    record {
      mask = mask_more (λ k. compares c.args.op (get_or c.args.left.now k (pos 0)) (get_or c.args.right.now k (pos 0)))
          c.loop-i.i c.loop-i.found.items _ c.compares.result c.loop-i.invariant.mask c.push_reserved.ensures.items
          (own ∙ (ap (λ x. compares c.args.op x c.from-in-loop-i.result) left
          ∙ ap (compares c.args.op (get_or c.args.left.now c.loop-i.i (pos 0))) right));
      room = subst (λ n. length c.args.left.now ≤ n) (sym c.push_reserved.ensures.capacity) c.loop-i.invariant.room;
    }
