use Rattle.std.proofs.Common.{refl}
use Rattle.sql_tree.specs.declared.cond.Pred.TheVariants as pred
use Rattle.sql_tree.proofs.CondForms.{unlike_between}
use Rattle.sql_tree.proofs.CondParts.{between_preds}
use Rattle.sql_tree.proofs.same_cond.is_between.Goals as goal

pub returns-in-Between : goal.returns-in-Between
returns-in-Between c = between_preds (pred.Between c.args.not.now c.args.value.now c.args.low.now c.args.high.now) c.args.other.now c.args.not.now c.in-Between.n c.args.value.now c.in-Between.v c.args.low.now c.in-Between.l c.args.high.now c.in-Between.h c.same_between.result refl c.in-Between.is c.same_between.ensures

pub returns-in_default : goal.returns-in_default
returns-in_default c = (λ u. absurd cc, λ e. absurd (unlike_between c.args.not.now c.args.value.now c.args.low.now c.args.high.now c.args.other.now c.in_default.not-Between e))
