-- Predicates of two forms are not the same.
use Rattle.std.proofs.Common.{◌≡◌, refl, sym, ap, ◌∙◌, Bool, ℤ}
use Rattle.sql_token.specs.declared.token.Span.{Span}
use Rattle.sql_tree.specs.Bare.{nowhere, bare_ints, bare_name, bare_expr, bare_pred, bare_cond}
use Rattle.sql_tree.specs.declared.cond.AreaKind.{AreaKind}
use Rattle.sql_tree.specs.declared.cond.Cmp.{Cmp}
use Rattle.sql_tree.specs.declared.cond.Cond.{Cond}
use Rattle.sql_tree.specs.declared.cond.Conj.{Conj}
use Rattle.sql_tree.specs.declared.cond.IntList.{IntList}
use Rattle.sql_tree.specs.declared.cond.Neg.{Neg}
use Rattle.sql_tree.specs.declared.cond.Pred.{Pred, roll-Pred, out-Pred}
use Rattle.sql_tree.specs.declared.cond.Pred.TheOpen.{Pred-F}
use Rattle.sql_tree.specs.declared.cond.Pred.TheVariants as pred
use Rattle.sql_tree.specs.declared.cond.Pred.TheViews.{roll-out-Pred}
use Rattle.sql_tree.specs.declared.expr.Expr.{Expr}
use Rattle.sql_tree.specs.declared.name.Name.{Name}
use Rattle.sql_tree.proofs.CondParts.{bare_open, pred_open, open_bracket, open_compare, open_between, open_among}
use Rattle.sql_tree.proofs.CondParts.{open_null, open_area, open_chord}

-- a predicate that is not of this form is another
pub unlike_bracket : (c : Cond) (b : Pred) → ((c : Cond) → b ≡ pred.Bracket c → ⊥) → bare_pred (pred.Bracket c) ≡ bare_pred b → ⊥
unlike_bracket c b h e = go (out-Pred b) refl (sym (open_bracket (pred.Bracket c) c refl) ∙ pred_open (pred.Bracket c) b e) where
  go : (x : Pred-F Pred Cond Conj Neg) → out-Pred b ≡ x → Pred-F.Bracket (bare_cond c) ≡ bare_open x → ⊥
  go (Pred-F.Bracket c') is e = h c' (sym (roll-out-Pred b) ∙ ap roll-Pred is ∙ pred.rolls-Bracket c')
  go _ is e = absurd cc

-- a predicate that is not of this form is another
pub unlike_compare : (left : Expr) (op : Cmp) (right : Expr) (b : Pred) → ((left : Expr) (op : Cmp) (right : Expr) → b ≡ pred.Compare left op right → ⊥) → bare_pred (pred.Compare left op right) ≡ bare_pred b → ⊥
unlike_compare left op right b h e = go (out-Pred b) refl (sym (open_compare (pred.Compare left op right) left op right refl) ∙ pred_open (pred.Compare left op right) b e) where
  go : (x : Pred-F Pred Cond Conj Neg) → out-Pred b ≡ x → Pred-F.Compare (bare_expr left) op (bare_expr right) ≡ bare_open x → ⊥
  go (Pred-F.Compare left' op' right') is e = h left' op' right' (sym (roll-out-Pred b) ∙ ap roll-Pred is ∙ pred.rolls-Compare left' op' right')
  go _ is e = absurd cc

-- a predicate that is not of this form is another
pub unlike_between : (without : Bool) (value : Expr) (low : Expr) (high : Expr) (b : Pred) → ((without : Bool) (value : Expr) (low : Expr) (high : Expr) → b ≡ pred.Between without value low high → ⊥) → bare_pred (pred.Between without value low high) ≡ bare_pred b → ⊥
unlike_between without value low high b h e = go (out-Pred b) refl (sym (open_between (pred.Between without value low high) without value low high refl) ∙ pred_open (pred.Between without value low high) b e) where
  go : (x : Pred-F Pred Cond Conj Neg) → out-Pred b ≡ x → Pred-F.Between without (bare_expr value) (bare_expr low) (bare_expr high) ≡ bare_open x → ⊥
  go (Pred-F.Between without' value' low' high') is e = h without' value' low' high' (sym (roll-out-Pred b) ∙ ap roll-Pred is ∙ pred.rolls-Between without' value' low' high')
  go _ is e = absurd cc

-- a predicate that is not of this form is another
pub unlike_among : (without : Bool) (value : Expr) (list : IntList) (b : Pred) → ((without : Bool) (value : Expr) (list : IntList) → b ≡ pred.Among without value list → ⊥) → bare_pred (pred.Among without value list) ≡ bare_pred b → ⊥
unlike_among without value list b h e = go (out-Pred b) refl (sym (open_among (pred.Among without value list) without value list refl) ∙ pred_open (pred.Among without value list) b e) where
  go : (x : Pred-F Pred Cond Conj Neg) → out-Pred b ≡ x → Pred-F.Among without (bare_expr value) (bare_ints list) ≡ bare_open x → ⊥
  go (Pred-F.Among without' value' list') is e = h without' value' list' (sym (roll-out-Pred b) ∙ ap roll-Pred is ∙ pred.rolls-Among without' value' list')
  go _ is e = absurd cc

-- a predicate that is not of this form is another
pub unlike_null : (without : Bool) (value : Expr) (b : Pred) → ((without : Bool) (value : Expr) → b ≡ pred.IsNull without value → ⊥) → bare_pred (pred.IsNull without value) ≡ bare_pred b → ⊥
unlike_null without value b h e = go (out-Pred b) refl (sym (open_null (pred.IsNull without value) without value refl) ∙ pred_open (pred.IsNull without value) b e) where
  go : (x : Pred-F Pred Cond Conj Neg) → out-Pred b ≡ x → Pred-F.IsNull without (bare_expr value) ≡ bare_open x → ⊥
  go (Pred-F.IsNull without' value') is e = h without' value' (sym (roll-out-Pred b) ∙ ap roll-Pred is ∙ pred.rolls-IsNull without' value')
  go _ is e = absurd cc

-- a predicate that is not of this form is another
pub unlike_area : (kind : AreaKind) (span : Span) (args : IntList) (b : Pred) → ((kind : AreaKind) (span : Span) (args : IntList) → b ≡ pred.Area kind span args → ⊥) → bare_pred (pred.Area kind span args) ≡ bare_pred b → ⊥
unlike_area kind span args b h e = go (out-Pred b) refl (sym (open_area (pred.Area kind span args) kind span args refl) ∙ pred_open (pred.Area kind span args) b e) where
  go : (x : Pred-F Pred Cond Conj Neg) → out-Pred b ≡ x → Pred-F.Area kind nowhere (bare_ints args) ≡ bare_open x → ⊥
  go (Pred-F.Area kind' span' args') is e = h kind' span' args' (sym (roll-out-Pred b) ∙ ap roll-Pred is ∙ pred.rolls-Area kind' span' args')
  go _ is e = absurd cc

-- a predicate that is not of this form is another
pub unlike_chord : (left : Name) (right : Name) (strict : Bool) (n : ℤ) (b : Pred) → ((left : Name) (right : Name) (strict : Bool) (n : ℤ) → b ≡ pred.Chord left right strict n → ⊥) → bare_pred (pred.Chord left right strict n) ≡ bare_pred b → ⊥
unlike_chord left right strict n b h e = go (out-Pred b) refl (sym (open_chord (pred.Chord left right strict n) left right strict n refl) ∙ pred_open (pred.Chord left right strict n) b e) where
  go : (x : Pred-F Pred Cond Conj Neg) → out-Pred b ≡ x → Pred-F.Chord (bare_name left) (bare_name right) strict n ≡ bare_open x → ⊥
  go (Pred-F.Chord left' right' strict' n') is e = h left' right' strict' n' (sym (roll-out-Pred b) ∙ ap roll-Pred is ∙ pred.rolls-Chord left' right' strict' n')
  go _ is e = absurd cc
