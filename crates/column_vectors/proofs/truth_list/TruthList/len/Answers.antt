use Rattle.std.proofs.Common.{◌≡◌, ◌∙◌, sym, ap, length, rules}
use Rattle.column_vectors.proofs.Flagged.{truths_count}
use Rattle.column_vectors.proofs.truth_list.TruthList.len.Goals as goal

pub returns : goal.returns
returns c =
    let is : c.len.result ≡ length c.self.inside.true_on.items = search rules in
    is ∙ sym (ap length (sym c.self.view_is) ∙ truths_count c.self.inside.true_on.items c.self.inside.false_on.items)
