-- Folds at trees that are made of their parts.
use Rattle.std.proofs.Common.{◌≡◌, ℤ, Bool, sym, ap, ◌∙◌}
use Rattle.sql_token.specs.declared.token.Span.{Span}
use Rattle.sql_tree.specs.declared.cond.AreaKind.{AreaKind}
use Rattle.sql_tree.specs.declared.cond.Cmp.{Cmp}
use Rattle.sql_tree.specs.declared.cond.Cond.{Cond}
use Rattle.sql_tree.specs.declared.cond.IntList.{IntList}
use Rattle.sql_tree.specs.declared.cond.Pred.TheFolds.{fold-Pred, fold-Cond, fold-roll-Pred}
use Rattle.sql_tree.specs.declared.cond.Pred.TheOpen.{Cond-F, Conj-F, Neg-F, Pred-F}
use Rattle.sql_tree.specs.declared.cond.Pred.TheVariants as pred
use Rattle.sql_tree.specs.declared.expr.Atom.TheFolds.{fold-Atom, fold-Expr, fold-roll-Atom}
use Rattle.sql_tree.specs.declared.expr.Atom.TheOpen.{Atom-F, Expr-F, Factor-F, Prod-F, Signed-F}
use Rattle.sql_tree.specs.declared.expr.Atom.TheVariants as atom
use Rattle.sql_tree.specs.declared.expr.Expr.{Expr}
use Rattle.sql_tree.specs.declared.name.Col.{Col}
use Rattle.sql_tree.specs.declared.name.Name.{Name}

pub fold_int : {A B C D E : Type 0} (f : Atom-F A B C D E → A) (g : Expr-F A B C D E → B) (h : Factor-F A B C D E → C) (j : Prod-F A B C D E → D) (k : Signed-F A B C D E → E) (n : ℤ) → fold-Atom A B C D E f g h j k (atom.Int n) ≡ f (Atom-F.Int n)
fold_int {A} {B} {C} {D} {E} f g h j k n = ap (fold-Atom A B C D E f g h j k) (sym (atom.rolls-Int n)) ∙ fold-roll-Atom A B C D E f g h j k (Atom-F.Int n)

pub fold_col : {A B C D E : Type 0} (f : Atom-F A B C D E → A) (g : Expr-F A B C D E → B) (h : Factor-F A B C D E → C) (j : Prod-F A B C D E → D) (k : Signed-F A B C D E → E) (c : Col) → fold-Atom A B C D E f g h j k (atom.Col c) ≡ f (Atom-F.Col c)
fold_col {A} {B} {C} {D} {E} f g h j k c = ap (fold-Atom A B C D E f g h j k) (sym (atom.rolls-Col c)) ∙ fold-roll-Atom A B C D E f g h j k (Atom-F.Col c)

pub fold_bracket : {A B C D E : Type 0} (f : Atom-F A B C D E → A) (g : Expr-F A B C D E → B) (h : Factor-F A B C D E → C) (j : Prod-F A B C D E → D) (k : Signed-F A B C D E → E) (e : Expr) → fold-Atom A B C D E f g h j k (atom.Bracket e) ≡ f (Atom-F.Bracket (fold-Expr A B C D E f g h j k e))
fold_bracket {A} {B} {C} {D} {E} f g h j k e = ap (fold-Atom A B C D E f g h j k) (sym (atom.rolls-Bracket e)) ∙ fold-roll-Atom A B C D E f g h j k (Atom-F.Bracket e)

pub fold_group : {A B C D : Type 0} (f : Pred-F A B C D → A) (g : Cond-F A B C D → B) (h : Conj-F A B C D → C) (j : Neg-F A B C D → D) (c : Cond) → fold-Pred A B C D f g h j (pred.Bracket c) ≡ f (Pred-F.Bracket (fold-Cond A B C D f g h j c))
fold_group {A} {B} {C} {D} f g h j c = ap (fold-Pred A B C D f g h j) (sym (pred.rolls-Bracket c)) ∙ fold-roll-Pred A B C D f g h j (Pred-F.Bracket c)

pub fold_compare : {A B C D : Type 0} (f : Pred-F A B C D → A) (g : Cond-F A B C D → B) (h : Conj-F A B C D → C) (j : Neg-F A B C D → D) (left : Expr) (op : Cmp) (right : Expr) → fold-Pred A B C D f g h j (pred.Compare left op right) ≡ f (Pred-F.Compare left op right)
fold_compare {A} {B} {C} {D} f g h j left op right = ap (fold-Pred A B C D f g h j) (sym (pred.rolls-Compare left op right)) ∙ fold-roll-Pred A B C D f g h j (Pred-F.Compare left op right)

pub fold_between : {A B C D : Type 0} (f : Pred-F A B C D → A) (g : Cond-F A B C D → B) (h : Conj-F A B C D → C) (j : Neg-F A B C D → D) (without : Bool) (value : Expr) (low : Expr) (high : Expr) → fold-Pred A B C D f g h j (pred.Between without value low high) ≡ f (Pred-F.Between without value low high)
fold_between {A} {B} {C} {D} f g h j without value low high = ap (fold-Pred A B C D f g h j) (sym (pred.rolls-Between without value low high)) ∙ fold-roll-Pred A B C D f g h j (Pred-F.Between without value low high)

pub fold_among : {A B C D : Type 0} (f : Pred-F A B C D → A) (g : Cond-F A B C D → B) (h : Conj-F A B C D → C) (j : Neg-F A B C D → D) (without : Bool) (value : Expr) (list : IntList) → fold-Pred A B C D f g h j (pred.Among without value list) ≡ f (Pred-F.Among without value list)
fold_among {A} {B} {C} {D} f g h j without value list = ap (fold-Pred A B C D f g h j) (sym (pred.rolls-Among without value list)) ∙ fold-roll-Pred A B C D f g h j (Pred-F.Among without value list)

pub fold_null : {A B C D : Type 0} (f : Pred-F A B C D → A) (g : Cond-F A B C D → B) (h : Conj-F A B C D → C) (j : Neg-F A B C D → D) (without : Bool) (value : Expr) → fold-Pred A B C D f g h j (pred.IsNull without value) ≡ f (Pred-F.IsNull without value)
fold_null {A} {B} {C} {D} f g h j without value = ap (fold-Pred A B C D f g h j) (sym (pred.rolls-IsNull without value)) ∙ fold-roll-Pred A B C D f g h j (Pred-F.IsNull without value)

pub fold_area : {A B C D : Type 0} (f : Pred-F A B C D → A) (g : Cond-F A B C D → B) (h : Conj-F A B C D → C) (j : Neg-F A B C D → D) (kind : AreaKind) (span : Span) (args : IntList) → fold-Pred A B C D f g h j (pred.Area kind span args) ≡ f (Pred-F.Area kind span args)
fold_area {A} {B} {C} {D} f g h j kind span args = ap (fold-Pred A B C D f g h j) (sym (pred.rolls-Area kind span args)) ∙ fold-roll-Pred A B C D f g h j (Pred-F.Area kind span args)

pub fold_chord : {A B C D : Type 0} (f : Pred-F A B C D → A) (g : Cond-F A B C D → B) (h : Conj-F A B C D → C) (j : Neg-F A B C D → D) (left : Name) (right : Name) (strict : Bool) (n : ℤ) → fold-Pred A B C D f g h j (pred.Chord left right strict n) ≡ f (Pred-F.Chord left right strict n)
fold_chord {A} {B} {C} {D} f g h j left right strict n = ap (fold-Pred A B C D f g h j) (sym (pred.rolls-Chord left right strict n)) ∙ fold-roll-Pred A B C D f g h j (Pred-F.Chord left right strict n)
