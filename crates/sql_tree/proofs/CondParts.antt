-- Conditions without spans, part by part: two are equal where their parts are.
use Rattle.std.proofs.Common.{◌≡◌, ℤ, map, refl, sym, ap, ◌∙◌, Bool, ◌↔◌, IsTrue}
use Rattle.sql_token.specs.declared.token.Span.{Span}
use Rattle.sql_tree.specs.Bare.{nowhere, bare_ints, bare_name, bare_expr, bare_pred_step, bare_pred, bare_cond, bare_conj, bare_neg}
use Rattle.sql_tree.specs.declared.cond.AreaKind.{AreaKind}
use Rattle.sql_tree.specs.declared.cond.Cmp.{Cmp}
use Rattle.sql_tree.specs.declared.cond.IntList.{IntList}
use Rattle.sql_tree.specs.declared.cond.Pred.{Pred, out-Pred, roll-Pred}
use Rattle.sql_tree.specs.declared.cond.Pred.TheVariants as pred
use Rattle.sql_tree.specs.declared.cond.Pred.TheFolds.{fold-roll-Pred, fold_out-Cond, fold_out-Conj, fold_out-Neg}
use Rattle.sql_tree.specs.declared.cond.Pred.TheViews.{roll-out-Pred, out-roll-Pred, out-roll-Cond, out-roll-Conj, out-roll-Neg}
use Rattle.sql_tree.specs.declared.cond.Pred.TheOpen.{Pred-F}
use Rattle.sql_tree.specs.declared.cond.Cond.{Cond, out-Cond, roll-Cond}
use Rattle.sql_tree.specs.declared.cond.Conj.{Conj, out-Conj, roll-Conj}
use Rattle.sql_tree.specs.declared.cond.Neg.{Neg, out-Neg, roll-Neg}
use Rattle.sql_tree.specs.declared.expr.Expr.{Expr}
use Rattle.sql_tree.specs.declared.name.Name.{Name}

open_cond : (a : Cond) → bare_cond a ≡ roll-Cond (record { first = bare_conj (out-Cond a).first; rest = map bare_conj (out-Cond a).rest })
unfolding bare_cond bare_conj
open_cond a = fold_out-Cond Pred Cond Conj Neg bare_pred_step roll-Cond roll-Conj roll-Neg a

outer_cond : (a : Cond) → out-Cond (bare_cond a) ≡ record { first = bare_conj (out-Cond a).first; rest = map bare_conj (out-Cond a).rest }
outer_cond a = ap out-Cond (open_cond a) ∙ out-roll-Cond (record { first = bare_conj (out-Cond a).first; rest = map bare_conj (out-Cond a).rest })

pub cond_whole : (a b : Cond) → bare_conj (out-Cond a).first ≡ bare_conj (out-Cond b).first → map bare_conj (out-Cond a).rest ≡ map bare_conj (out-Cond b).rest → bare_cond a ≡ bare_cond b
cond_whole a b h k = rw (open_cond a, open_cond b, h, k) refl

pub cond_first : (a b : Cond) → bare_cond a ≡ bare_cond b → bare_conj (out-Cond a).first ≡ bare_conj (out-Cond b).first
cond_first a b e = ap (λ x. x.first) (sym (outer_cond a) ∙ ap out-Cond e ∙ outer_cond b)

pub cond_rest : (a b : Cond) → bare_cond a ≡ bare_cond b → map bare_conj (out-Cond a).rest ≡ map bare_conj (out-Cond b).rest
cond_rest a b e = ap (λ x. x.rest) (sym (outer_cond a) ∙ ap out-Cond e ∙ outer_cond b)

open_conj : (a : Conj) → bare_conj a ≡ roll-Conj (record { first = bare_neg (out-Conj a).first; rest = map bare_neg (out-Conj a).rest })
unfolding bare_conj bare_neg
open_conj a = fold_out-Conj Pred Cond Conj Neg bare_pred_step roll-Cond roll-Conj roll-Neg a

outer_conj : (a : Conj) → out-Conj (bare_conj a) ≡ record { first = bare_neg (out-Conj a).first; rest = map bare_neg (out-Conj a).rest }
outer_conj a = ap out-Conj (open_conj a) ∙ out-roll-Conj (record { first = bare_neg (out-Conj a).first; rest = map bare_neg (out-Conj a).rest })

pub conj_whole : (a b : Conj) → bare_neg (out-Conj a).first ≡ bare_neg (out-Conj b).first → map bare_neg (out-Conj a).rest ≡ map bare_neg (out-Conj b).rest → bare_conj a ≡ bare_conj b
conj_whole a b h k = rw (open_conj a, open_conj b, h, k) refl

pub conj_first : (a b : Conj) → bare_conj a ≡ bare_conj b → bare_neg (out-Conj a).first ≡ bare_neg (out-Conj b).first
conj_first a b e = ap (λ x. x.first) (sym (outer_conj a) ∙ ap out-Conj e ∙ outer_conj b)

pub conj_rest : (a b : Conj) → bare_conj a ≡ bare_conj b → map bare_neg (out-Conj a).rest ≡ map bare_neg (out-Conj b).rest
conj_rest a b e = ap (λ x. x.rest) (sym (outer_conj a) ∙ ap out-Conj e ∙ outer_conj b)

open_neg : (a : Neg) → bare_neg a ≡ roll-Neg (record { not = (out-Neg a).not; pred = bare_pred (out-Neg a).pred })
unfolding bare_neg bare_pred
open_neg a = fold_out-Neg Pred Cond Conj Neg bare_pred_step roll-Cond roll-Conj roll-Neg a

outer_neg : (a : Neg) → out-Neg (bare_neg a) ≡ record { not = (out-Neg a).not; pred = bare_pred (out-Neg a).pred }
outer_neg a = ap out-Neg (open_neg a) ∙ out-roll-Neg (record { not = (out-Neg a).not; pred = bare_pred (out-Neg a).pred })

pub neg_whole : (a b : Neg) → (out-Neg a).not ≡ (out-Neg b).not → bare_pred (out-Neg a).pred ≡ bare_pred (out-Neg b).pred → bare_neg a ≡ bare_neg b
neg_whole a b h k = rw (open_neg a, open_neg b, h, k) refl

pub neg_not : (a b : Neg) → bare_neg a ≡ bare_neg b → (out-Neg a).not ≡ (out-Neg b).not
neg_not a b e = ap (λ x. x.not) (sym (outer_neg a) ∙ ap out-Neg e ∙ outer_neg b)

pub neg_pred : (a b : Neg) → bare_neg a ≡ bare_neg b → bare_pred (out-Neg a).pred ≡ bare_pred (out-Neg b).pred
neg_pred a b e = ap (λ x. x.pred) (sym (outer_neg a) ∙ ap out-Neg e ∙ outer_neg b)

-- ---- predicates

-- an open predicate without spans
abbrev pub bare_open : Pred-F Pred Cond Conj Neg → Pred-F Pred Cond Conj Neg
bare_open (Pred-F.Bracket c) = Pred-F.Bracket (bare_cond c)
bare_open (Pred-F.Compare left op right) = Pred-F.Compare (bare_expr left) op (bare_expr right)
bare_open (Pred-F.Between without value low high) = Pred-F.Between without (bare_expr value) (bare_expr low) (bare_expr high)
bare_open (Pred-F.Among without value list) = Pred-F.Among without (bare_expr value) (bare_ints list)
bare_open (Pred-F.IsNull without value) = Pred-F.IsNull without (bare_expr value)
bare_open (Pred-F.Area kind span args) = Pred-F.Area kind nowhere (bare_ints args)
bare_open (Pred-F.Chord left right strict n) = Pred-F.Chord (bare_name left) (bare_name right) strict n

open_pred : (x : Pred-F Pred Cond Conj Neg) → bare_pred (roll-Pred x) ≡ roll-Pred (bare_open x)
unfolding bare_pred bare_cond
open_pred (Pred-F.Bracket c) = fold-roll-Pred Pred Cond Conj Neg bare_pred_step roll-Cond roll-Conj roll-Neg (Pred-F.Bracket c) ∙ sym (pred.rolls-Bracket (bare_cond c))
open_pred (Pred-F.Compare left op right) = fold-roll-Pred Pred Cond Conj Neg bare_pred_step roll-Cond roll-Conj roll-Neg (Pred-F.Compare left op right) ∙ sym (pred.rolls-Compare (bare_expr left) op (bare_expr right))
open_pred (Pred-F.Between without value low high) = fold-roll-Pred Pred Cond Conj Neg bare_pred_step roll-Cond roll-Conj roll-Neg (Pred-F.Between without value low high) ∙ sym (pred.rolls-Between without (bare_expr value) (bare_expr low) (bare_expr high))
open_pred (Pred-F.Among without value list) = fold-roll-Pred Pred Cond Conj Neg bare_pred_step roll-Cond roll-Conj roll-Neg (Pred-F.Among without value list) ∙ sym (pred.rolls-Among without (bare_expr value) (bare_ints list))
open_pred (Pred-F.IsNull without value) = fold-roll-Pred Pred Cond Conj Neg bare_pred_step roll-Cond roll-Conj roll-Neg (Pred-F.IsNull without value) ∙ sym (pred.rolls-IsNull without (bare_expr value))
open_pred (Pred-F.Area kind span args) = fold-roll-Pred Pred Cond Conj Neg bare_pred_step roll-Cond roll-Conj roll-Neg (Pred-F.Area kind span args) ∙ sym (pred.rolls-Area kind nowhere (bare_ints args))
open_pred (Pred-F.Chord left right strict n) = fold-roll-Pred Pred Cond Conj Neg bare_pred_step roll-Cond roll-Conj roll-Neg (Pred-F.Chord left right strict n) ∙ sym (pred.rolls-Chord (bare_name left) (bare_name right) strict n)

outer_pred : (a : Pred) → out-Pred (bare_pred a) ≡ bare_open (out-Pred a)
outer_pred a = ap (λ t. out-Pred (bare_pred t)) (sym (roll-out-Pred a)) ∙ ap out-Pred (open_pred (out-Pred a)) ∙ out-roll-Pred (bare_open (out-Pred a))

-- two predicates are equal where they are so when open
pub pred_open : (a b : Pred) → bare_pred a ≡ bare_pred b → bare_open (out-Pred a) ≡ bare_open (out-Pred b)
pred_open a b e = sym (outer_pred a) ∙ ap out-Pred e ∙ outer_pred b

pub pred_whole : (a b : Pred) → bare_open (out-Pred a) ≡ bare_open (out-Pred b) → bare_pred a ≡ bare_pred b
pred_whole a b e = sym (roll-out-Pred (bare_pred a)) ∙ ap roll-Pred (outer_pred a ∙ e ∙ sym (outer_pred b)) ∙ roll-out-Pred (bare_pred b)

-- predicates of one form
pub open_bracket : (a : Pred) (c : Cond) → a ≡ pred.Bracket c → bare_open (out-Pred a) ≡ Pred-F.Bracket (bare_cond c)
open_bracket a c e = ap (λ t. bare_open (out-Pred t)) (e ∙ sym (pred.rolls-Bracket c)) ∙ ap bare_open (out-roll-Pred (Pred-F.Bracket c))

pub bracket_preds : (a b : Pred) (c c' : Cond) (r : Bool) → a ≡ pred.Bracket c → b ≡ pred.Bracket c' → (IsTrue r ↔ ((bare_cond c ≡ bare_cond c'))) → IsTrue r ↔ (bare_pred a ≡ bare_pred b)
bracket_preds a b c c' r is is' h =
    let x = open_bracket a c is in
    let y = open_bracket b c' is' in
    (λ t. pred_whole a b (x ∙ ap (λ k. Pred-F.Bracket k) (h.0 t) ∙ sym y), λ e. let both = sym x ∙ pred_open a b e ∙ y in h.1 cc)

pub open_compare : (a : Pred) (left : Expr) (op : Cmp) (right : Expr) → a ≡ pred.Compare left op right → bare_open (out-Pred a) ≡ Pred-F.Compare (bare_expr left) op (bare_expr right)
open_compare a left op right e = ap (λ t. bare_open (out-Pred t)) (e ∙ sym (pred.rolls-Compare left op right)) ∙ ap bare_open (out-roll-Pred (Pred-F.Compare left op right))

pub compare_preds : (a b : Pred) (left left' : Expr) (op op' : Cmp) (right right' : Expr) (r : Bool) → a ≡ pred.Compare left op right → b ≡ pred.Compare left' op' right' → (IsTrue r ↔ ((bare_expr left ≡ bare_expr left') × (op ≡ op') × (bare_expr right ≡ bare_expr right'))) → IsTrue r ↔ (bare_pred a ≡ bare_pred b)
compare_preds a b left left' op op' right right' r is is' h =
    let x = open_compare a left op right is in
    let y = open_compare b left' op' right' is' in
    (λ t. pred_whole a b (x ∙ (let k = h.0 t in rw (k.0, k.1, k.2) refl) ∙ sym y), λ e. let both = sym x ∙ pred_open a b e ∙ y in h.1 (cc, cc, cc))

pub open_between : (a : Pred) (without : Bool) (value : Expr) (low : Expr) (high : Expr) → a ≡ pred.Between without value low high → bare_open (out-Pred a) ≡ Pred-F.Between without (bare_expr value) (bare_expr low) (bare_expr high)
open_between a without value low high e = ap (λ t. bare_open (out-Pred t)) (e ∙ sym (pred.rolls-Between without value low high)) ∙ ap bare_open (out-roll-Pred (Pred-F.Between without value low high))

pub between_preds : (a b : Pred) (without without' : Bool) (value value' : Expr) (low low' : Expr) (high high' : Expr) (r : Bool) → a ≡ pred.Between without value low high → b ≡ pred.Between without' value' low' high' → (IsTrue r ↔ ((without ≡ without') × (bare_expr value ≡ bare_expr value') × (bare_expr low ≡ bare_expr low') × (bare_expr high ≡ bare_expr high'))) → IsTrue r ↔ (bare_pred a ≡ bare_pred b)
between_preds a b without without' value value' low low' high high' r is is' h =
    let x = open_between a without value low high is in
    let y = open_between b without' value' low' high' is' in
    (λ t. pred_whole a b (x ∙ (let k = h.0 t in rw (k.0, k.1, k.2, k.3) refl) ∙ sym y), λ e. let both = sym x ∙ pred_open a b e ∙ y in h.1 (cc, cc, cc, cc))

pub open_among : (a : Pred) (without : Bool) (value : Expr) (list : IntList) → a ≡ pred.Among without value list → bare_open (out-Pred a) ≡ Pred-F.Among without (bare_expr value) (bare_ints list)
open_among a without value list e = ap (λ t. bare_open (out-Pred t)) (e ∙ sym (pred.rolls-Among without value list)) ∙ ap bare_open (out-roll-Pred (Pred-F.Among without value list))

pub among_preds : (a b : Pred) (without without' : Bool) (value value' : Expr) (list list' : IntList) (r : Bool) → a ≡ pred.Among without value list → b ≡ pred.Among without' value' list' → (IsTrue r ↔ ((without ≡ without') × (bare_expr value ≡ bare_expr value') × (bare_ints list ≡ bare_ints list'))) → IsTrue r ↔ (bare_pred a ≡ bare_pred b)
among_preds a b without without' value value' list list' r is is' h =
    let x = open_among a without value list is in
    let y = open_among b without' value' list' is' in
    (λ t. pred_whole a b (x ∙ (let k = h.0 t in rw (k.0, k.1, k.2) refl) ∙ sym y), λ e. let both = sym x ∙ pred_open a b e ∙ y in h.1 (cc, cc, cc))

pub open_null : (a : Pred) (without : Bool) (value : Expr) → a ≡ pred.IsNull without value → bare_open (out-Pred a) ≡ Pred-F.IsNull without (bare_expr value)
open_null a without value e = ap (λ t. bare_open (out-Pred t)) (e ∙ sym (pred.rolls-IsNull without value)) ∙ ap bare_open (out-roll-Pred (Pred-F.IsNull without value))

pub null_preds : (a b : Pred) (without without' : Bool) (value value' : Expr) (r : Bool) → a ≡ pred.IsNull without value → b ≡ pred.IsNull without' value' → (IsTrue r ↔ ((without ≡ without') × (bare_expr value ≡ bare_expr value'))) → IsTrue r ↔ (bare_pred a ≡ bare_pred b)
null_preds a b without without' value value' r is is' h =
    let x = open_null a without value is in
    let y = open_null b without' value' is' in
    (λ t. pred_whole a b (x ∙ (let k = h.0 t in rw (k.0, k.1) refl) ∙ sym y), λ e. let both = sym x ∙ pred_open a b e ∙ y in h.1 (cc, cc))

pub open_area : (a : Pred) (kind : AreaKind) (span : Span) (args : IntList) → a ≡ pred.Area kind span args → bare_open (out-Pred a) ≡ Pred-F.Area kind nowhere (bare_ints args)
open_area a kind span args e = ap (λ t. bare_open (out-Pred t)) (e ∙ sym (pred.rolls-Area kind span args)) ∙ ap bare_open (out-roll-Pred (Pred-F.Area kind span args))

pub area_preds : (a b : Pred) (kind kind' : AreaKind) (span span' : Span) (args args' : IntList) (r : Bool) → a ≡ pred.Area kind span args → b ≡ pred.Area kind' span' args' → (IsTrue r ↔ ((kind ≡ kind') × (bare_ints args ≡ bare_ints args'))) → IsTrue r ↔ (bare_pred a ≡ bare_pred b)
area_preds a b kind kind' span span' args args' r is is' h =
    let x = open_area a kind span args is in
    let y = open_area b kind' span' args' is' in
    (λ t. pred_whole a b (x ∙ (let k = h.0 t in rw (k.0, k.1) refl) ∙ sym y), λ e. let both = sym x ∙ pred_open a b e ∙ y in h.1 (cc, cc))

pub open_chord : (a : Pred) (left : Name) (right : Name) (strict : Bool) (n : ℤ) → a ≡ pred.Chord left right strict n → bare_open (out-Pred a) ≡ Pred-F.Chord (bare_name left) (bare_name right) strict n
open_chord a left right strict n e = ap (λ t. bare_open (out-Pred t)) (e ∙ sym (pred.rolls-Chord left right strict n)) ∙ ap bare_open (out-roll-Pred (Pred-F.Chord left right strict n))

pub chord_preds : (a b : Pred) (left left' : Name) (right right' : Name) (strict strict' : Bool) (n n' : ℤ) (r : Bool) → a ≡ pred.Chord left right strict n → b ≡ pred.Chord left' right' strict' n' → (IsTrue r ↔ ((bare_name left ≡ bare_name left') × (bare_name right ≡ bare_name right') × (strict ≡ strict') × (n ≡ n'))) → IsTrue r ↔ (bare_pred a ≡ bare_pred b)
chord_preds a b left left' right right' strict strict' n n' r is is' h =
    let x = open_chord a left right strict n is in
    let y = open_chord b left' right' strict' n' is' in
    (λ t. pred_whole a b (x ∙ (let k = h.0 t in rw (k.0, k.1, k.2, k.3) refl) ∙ sym y), λ e. let both = sym x ∙ pred_open a b e ∙ y in h.1 (cc, cc, cc, cc))
