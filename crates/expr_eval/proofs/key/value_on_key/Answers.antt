use Rattle.std.proofs.Common.{sym, subst}
use Rattle.value_rules.specs.Keys.{key_cell}
use Rattle.value_rules.specs.Ranges.{IsInRangeAt}
use Rattle.value_rules.specs.Terms.{term_of}
use Rattle.value_rules.specs.Widths.{IsOfSize, most}
use Rattle.expr_eval.proofs.KeyTerms.{ranged}
use Rattle.expr_eval.proofs.key.value_on_key.Goals as goal

pub number-requires : goal.number-requires
number-requires c =
    subst (IsOfSize most) (sym c.key_sum.ensures)
    (ranged (key_cell c.as_slice.result.now c.args.key.now) (term_of c.args.e.now)
    (subst (λ keys. IsInRangeAt (key_cell keys c.args.key.now) (term_of c.args.e.now)) (sym c.as_slice.ensures)
    c.requires.range))
