use Rattle.std.proofs.Common.{sym, ◌∙◌}
use Rattle.value_rules.specs.Sound.{same_col}
use Rattle.explain_text.proofs.KeyPlaces.{found_place, none_place}
use Rattle.explain_text.proofs.key_exprs.key_place.Goals as goal

pub returns-in-Some-clause-place : goal.returns-in-Some-clause-place
returns-in-Some-clause-place c =
    sym (found_place (λ k. same_col k c.args.col) c.args.keys.now c.in-Some.place (sym c.position_of.ensures ∙ c.in-Some.is))

pub returns-in-None-clause-place : goal.returns-in-None-clause-place
returns-in-None-clause-place c =
    sym (none_place (λ k. same_col k c.args.col) c.args.keys.now (sym c.position_of.ensures ∙ c.in-None.is))
