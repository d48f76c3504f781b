use Rattle.std.proofs.Common.{refl}
use Rattle.sql_tree.specs.declared.cond.Pred.TheVariants as pred
use Rattle.sql_tree.proofs.CondForms.{unlike_compare}
use Rattle.sql_tree.proofs.CondParts.{compare_preds}
use Rattle.sql_tree.proofs.same_cond.is_compare.Goals as goal

pub returns-in-Compare : goal.returns-in-Compare
returns-in-Compare c = compare_preds (pred.Compare c.args.left.now c.args.op.now c.args.right.now) c.args.other.now c.args.left.now c.in-Compare.l c.args.op.now c.in-Compare.o c.args.right.now c.in-Compare.r c.same_compare.result refl c.in-Compare.is c.same_compare.ensures

pub returns-in_default : goal.returns-in_default
returns-in_default c = (λ u. absurd cc, λ e. absurd (unlike_compare c.args.left.now c.args.op.now c.args.right.now c.args.other.now c.in_default.not-Compare e))
