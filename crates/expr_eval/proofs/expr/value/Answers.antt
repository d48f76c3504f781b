use Rattle.std.proofs.Common.{sym, subst}
use Rattle.value_rules.specs.Widths.{IsOfSize, most}
use Rattle.expr_eval.specs.Picks.{pick_of}
use Rattle.value_rules.specs.Terms.{term_of}
use Rattle.expr_eval.proofs.Terms.{fits}
use Rattle.expr_eval.proofs.expr.value.Goals as goal

pub number-requires : goal.number-requires
number-requires c =
    subst (IsOfSize most) (sym c.sum.ensures)
    (fits (pick_of c.args.first.now c.args.second) (term_of c.args.e.now) c.know.ensures c.requires.sound)
