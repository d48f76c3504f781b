use Rattle.std.proofs.Common.{refl}
use Rattle.sql_tree.specs.declared.cond.Pred.TheVariants as pred
use Rattle.sql_tree.proofs.CondForms.{unlike_chord}
use Rattle.sql_tree.proofs.CondParts.{chord_preds}
use Rattle.sql_tree.proofs.same_cond.is_chord.Goals as goal

pub returns-in-Chord : goal.returns-in-Chord
returns-in-Chord c = chord_preds (pred.Chord c.args.left.now c.args.right.now c.args.strict.now c.args.n.now) c.args.other.now c.args.left.now c.in-Chord.l c.args.right.now c.in-Chord.r c.args.strict.now c.in-Chord.s c.args.n.now c.in-Chord.m c.same_chord.result refl c.in-Chord.is c.same_chord.ensures

pub returns-in_default : goal.returns-in_default
returns-in_default c = (λ u. absurd cc, λ e. absurd (unlike_chord c.args.left.now c.args.right.now c.args.strict.now c.args.n.now c.args.other.now c.in_default.not-Chord e))
