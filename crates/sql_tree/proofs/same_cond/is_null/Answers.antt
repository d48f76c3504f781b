use Rattle.std.proofs.Common.{refl}
use Rattle.sql_tree.specs.declared.cond.Pred.TheVariants as pred
use Rattle.sql_tree.proofs.CondForms.{unlike_null}
use Rattle.sql_tree.proofs.CondParts.{null_preds}
use Rattle.sql_tree.proofs.same_cond.is_null.Goals as goal

pub returns-in-IsNull : goal.returns-in-IsNull
returns-in-IsNull c = null_preds (pred.IsNull c.args.not.now c.args.value.now) c.args.other.now c.args.not.now c.in-IsNull.n c.args.value.now c.in-IsNull.v c.same_valued.result refl c.in-IsNull.is c.same_valued.ensures

pub returns-in_default : goal.returns-in_default
returns-in_default c = (λ u. absurd cc, λ e. absurd (unlike_null c.args.not.now c.args.value.now c.args.other.now c.in_default.not-IsNull e))
