use Rattle.std.proofs.Common.{◌∙◌, ap, map}
use Rattle.value_rules.specs.Truth.{is_true}
use Rattle.column_vectors.proofs.Flagged.{truths_hold}
use Rattle.column_vectors.proofs.truth_list.TruthList.holds.Goals as goal

pub returns : goal.returns
returns c =
    c.as_slice.ensures.value
    ∙ (truths_hold c.self.inside.true_on.items c.self.inside.false_on.items ∙ ap (map is_true) c.self.view_is)
