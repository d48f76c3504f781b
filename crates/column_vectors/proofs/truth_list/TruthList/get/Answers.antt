use Rattle.std.proofs.Common.{◌<◌, ◌∙◌, ap, sym, arith, None, false, get_or, length}
use Rattle.column_vectors.specs.Flags.{truth_by}
use Rattle.column_vectors.proofs.Flagged.{truth_is, truths_count}
use Rattle.column_vectors.proofs.truth_list.TruthList.get.Goals as goal

pub truth_at-requires-clause-true_on : goal.truth_at-requires-clause-true_on
truth_at-requires-clause-true_on c =
    omega (arith, c.requires, ap length c.as_slice.ensures.value, ap length c.self.view_is, truths_count c.self.inside.true_on.items c.self.inside.false_on.items)

pub truth_at-requires-clause-false_on : goal.truth_at-requires-clause-false_on
truth_at-requires-clause-false_on c =
    omega (arith, c.requires, ap length c.as_slice-2.ensures.value, ap length c.self.view_is, truths_count c.self.inside.true_on.items c.self.inside.false_on.items, c.self.invariant)

pub returns : goal.returns
returns c =
    let low : c.args.i < length c.self.inside.true_on.items = omega (arith, c.requires, ap length c.self.view_is, truths_count c.self.inside.true_on.items c.self.inside.false_on.items) in
    c.truth_at.ensures
    ∙ (ap (λ l. truth_by (get_or l c.args.i false) (get_or c.as_slice-2.result.now c.args.i false)) c.as_slice.ensures.value
    ∙ (ap (λ l. truth_by (get_or c.self.inside.true_on.items c.args.i false) (get_or l c.args.i false)) c.as_slice-2.ensures.value
    ∙ (sym (truth_is c.self.inside.true_on.items c.self.inside.false_on.items c.args.i None low) ∙ ap (λ l. get_or l c.args.i None) c.self.view_is)))
