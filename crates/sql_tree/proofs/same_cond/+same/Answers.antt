use Rattle.std.proofs.Common.{◌≡◌, refl, sym, ap, ◌∙◌, subst, ◌↔◌, IsTrue}
use Rattle.sql_tree.specs.Bare.{bare_pred}
use Rattle.sql_tree.specs.declared.cond.Pred.TheVariants as pred
use Rattle.sql_tree.proofs.CondForms.{unlike_bracket}
use Rattle.sql_tree.proofs.CondParts.{bracket_preds}
use Rattle.sql_tree.proofs.same_cond.+same.Goals as goal

pub is_bracket-returns-in-Bracket : goal.is_bracket-returns-in-Bracket
is_bracket-returns-in-Bracket t c = bracket_preds (pred.Bracket c.args.cond.now) c.args.other.now c.args.cond.now c.get.result.now c.same_cond.result refl (c.in-Bracket.is ∙ ap pred.Bracket (sym c.get.ensures)) c.same_cond.ensures

pub is_bracket-returns-in_default : goal.is_bracket-returns-in_default
is_bracket-returns-in_default t c = (λ u. absurd cc, λ e. absurd (unlike_bracket c.args.cond.now c.args.other.now c.in_default.not-Bracket e))

pub same_pred-returns-in-Bracket : goal.same_pred-returns-in-Bracket
same_pred-returns-in-Bracket t c = subst (λ p. IsTrue c.is_bracket.result ↔ (bare_pred p ≡ bare_pred c.args.b.now)) (sym (c.in-Bracket.is ∙ ap pred.Bracket (sym c.get.ensures))) c.is_bracket.ensures

pub same_pred-returns-in-Compare : goal.same_pred-returns-in-Compare
same_pred-returns-in-Compare t c = subst (λ p. IsTrue c.is_compare.result ↔ (bare_pred p ≡ bare_pred c.args.b.now)) (sym c.in-Compare.is) c.is_compare.ensures

pub same_pred-returns-in-Between : goal.same_pred-returns-in-Between
same_pred-returns-in-Between t c = subst (λ p. IsTrue c.is_between.result ↔ (bare_pred p ≡ bare_pred c.args.b.now)) (sym c.in-Between.is) c.is_between.ensures

pub same_pred-returns-in-Among : goal.same_pred-returns-in-Among
same_pred-returns-in-Among t c = subst (λ p. IsTrue c.is_among.result ↔ (bare_pred p ≡ bare_pred c.args.b.now)) (sym c.in-Among.is) c.is_among.ensures

pub same_pred-returns-in-IsNull : goal.same_pred-returns-in-IsNull
same_pred-returns-in-IsNull t c = subst (λ p. IsTrue c.is_null.result ↔ (bare_pred p ≡ bare_pred c.args.b.now)) (sym c.in-IsNull.is) c.is_null.ensures

pub same_pred-returns-in-Area : goal.same_pred-returns-in-Area
same_pred-returns-in-Area t c = subst (λ p. IsTrue c.is_area.result ↔ (bare_pred p ≡ bare_pred c.args.b.now)) (sym c.in-Area.is) c.is_area.ensures

pub same_pred-returns-in-Chord : goal.same_pred-returns-in-Chord
same_pred-returns-in-Chord t c = subst (λ p. IsTrue c.is_chord.result ↔ (bare_pred p ≡ bare_pred c.args.b.now)) (sym c.in-Chord.is) c.is_chord.ensures
