use Rattle.std.proofs.Common.{refl}
use Rattle.sql_tree.specs.declared.cond.Pred.TheVariants as pred
use Rattle.sql_tree.proofs.CondForms.{unlike_area}
use Rattle.sql_tree.proofs.CondParts.{area_preds}
use Rattle.sql_tree.proofs.same_cond.is_area.Goals as goal

pub returns-in-Area : goal.returns-in-Area
returns-in-Area c = area_preds (pred.Area c.args.kind.now c.args.span.now c.args.args.now) c.args.other.now c.args.kind.now c.in-Area.k c.args.span.now c.in-Area.span c.args.args.now c.in-Area.l c.same_area.result refl c.in-Area.is c.same_area.ensures

pub returns-in_default : goal.returns-in_default
returns-in_default c = (λ u. absurd cc, λ e. absurd (unlike_area c.args.kind.now c.args.span.now c.args.args.now c.args.other.now c.in_default.not-Area e))
