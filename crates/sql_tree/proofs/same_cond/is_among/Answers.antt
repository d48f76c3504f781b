use Rattle.std.proofs.Common.{refl}
use Rattle.sql_tree.specs.declared.cond.Pred.TheVariants as pred
use Rattle.sql_tree.proofs.CondForms.{unlike_among}
use Rattle.sql_tree.proofs.CondParts.{among_preds}
use Rattle.sql_tree.proofs.same_cond.is_among.Goals as goal

pub returns-in-Among : goal.returns-in-Among
returns-in-Among c = among_preds (pred.Among c.args.not.now c.args.value.now c.args.list.now) c.args.other.now c.args.not.now c.in-Among.n c.args.value.now c.in-Among.v c.args.list.now c.in-Among.l c.same_among.result refl c.in-Among.is c.same_among.ensures

pub returns-in_default : goal.returns-in_default
returns-in_default c = (λ u. absurd cc, λ e. absurd (unlike_among c.args.not.now c.args.value.now c.args.list.now c.args.other.now c.in_default.not-Among e))
