-- What a condition comes to is sound, where its expressions and its area tests are.
use Rattle.std.specs.Prelude.{option_to_list}
use Rattle.std.proofs.Common.{◌≡◌, Bool, true, false, List, [], ◌∷◌, ◌++◌, map, Option, Some, None, refl, sym, subst}
use Rattle.std.specs.Prelude.{◌&&◌, not}
use Rattle.std.specs.List.{AllByRecursion as Each, flat_map}
use Rattle.sql_bound.specs.declared.area.AreaTest.{AreaTest}
use Rattle.sql_bound.specs.declared.cond.BoundAll.{BoundAll}
use Rattle.sql_bound.specs.declared.cond.BoundAny.{BoundAny}
use Rattle.sql_bound.specs.declared.cond.BoundCond.{BoundCond, roll-BoundCond}
use Rattle.sql_bound.specs.declared.cond.BoundPred.{BoundPred}
use Rattle.sql_bound.specs.declared.cond.BoundPred.TheVariants as bound
use Rattle.sql_bound.specs.declared.expr.BoundCol.{BoundCol}
use Rattle.sql_tree.specs.declared.cond.Cond.{Cond}
use Rattle.sql_tree.specs.declared.cond.Conj.{Conj}
use Rattle.sql_tree.specs.declared.cond.Neg.{Neg}
use Rattle.sql_tree.specs.declared.cond.Pred.{Pred}
use Rattle.sql_tree.specs.declared.cond.Pred.TheFolds.{fold-roll-Cond, fold-roll-Conj, fold-roll-Neg}
use Rattle.sql_tree.specs.declared.cond.Pred.TheOpen.{Pred-F}
use Rattle.sql_tree.specs.declared.expr.Expr.{Expr}
use Rattle.value_rules.specs.Formulas.{Formula, And, Or, negated_if, all_from, any_from, formula_of, formula_of_pred, formula_of_all, formula_of_any}
use Rattle.value_rules.specs.Sound.{is_sound_at, is_sound_formula}
use Rattle.value_rules.specs.Terms.{term_of}
use Rattle.value_rules.proofs.Parts.{formula_bracket, formula_compare, formula_between, formula_among, formula_null, formula_area, formula_cond_roll, formula_all_roll, formula_any_roll}
use Rattle.bind_rules.specs.Areas.{area_test}
use Rattle.bind_rules.specs.Bounds.{Meaning, expr_by}
use Rattle.bind_rules.specs.Conjuncts.{conjuncts}
use Rattle.bind_rules.specs.Wholes.{area_pred, bracket, before, all_there, conj_by, any_by, neg_by, bound_pred, bound_any, bound_all, bound_cond, bound_conjunct}
use Rattle.bind_rules.specs.Forms.{values_of, is_area_form}
use Rattle.text_rules.specs.Readings.{joined}
use Rattle.bind_rules.specs.Tops.{Test, Tests, Area, Chord, Found, found_in, within_pred, within}
use Rattle.bind_rules.specs.Widths.{Exprs, exprs_at_pred, exprs_of}
use Rattle.bind_rules.proofs.AreaTests.{IsSoundArea, area_sound}
use Rattle.bind_rules.proofs.Each.{front, back, by_two, in_parts, of_parts, IfThere}
use Rattle.bind_rules.proofs.Folds.{fold_group, fold_compare, fold_between, fold_among, fold_null, fold_area, fold_chord}
use Rattle.bind_rules.proofs.Inductions.{neg_induction}
use Rattle.bind_rules.proofs.Wholes.{bound_group, bound_compare, bound_between, bound_among, bound_null, bound_area, bound_chord, bound_neg_roll, bound_conj_roll, bound_cond_roll}
use Rattle.bind_rules.proofs.Found.{in_found}
use Rattle.bind_rules.proofs.Inside.{from_pred, from_cond, from_conj, from_neg, from_conjuncts}
use Rattle.bind_rules.proofs.Views.{View, views}

-- ---- what is sound

-- the expression is sound, bound
abbrev pub IsSoundExpr : Meaning → (BoundCol → Bool) → Expr → Type 0
IsSoundExpr means allowed e = is_sound_at allowed (term_of (expr_by means e)) ≡ true

-- the arguments of an area test fit its function
abbrev pub HasForm : Test → Type 0
HasForm (Area kind span args) = is_area_form kind (values_of args) ≡ true
HasForm _ = Unit {0}

abbrev pub FoundForm : Found → Type 0
FoundForm f = HasForm f.test

-- the condition is sound
abbrev pub IsSoundCond : (BoundCol → Bool) → BoundCond → Type 0
IsSoundCond allowed c = is_sound_formula allowed (formula_of c) ≡ true

-- what a part is bound to is sound, where it has a place in a bound condition
abbrev pub IsSoundWhole : {A : Type 0} → (BoundCol → Bool) → (A → Formula) → Option A → Type 0
IsSoundWhole allowed formula w = IfThere (λ x. is_sound_formula allowed (formula x) ≡ true) w

-- ---- formulas

two_true : (a b : Bool) → a ≡ true → b ≡ true → (a && b) ≡ true
two_true a b h k = rw (h, k) refl

negated_sound : (allowed : BoundCol → Bool) (n : Bool) (f : Formula) → is_sound_formula allowed f ≡ true → is_sound_formula allowed (negated_if n f) ≡ true
negated_sound allowed true f h = h
negated_sound allowed false f h = h

all_sound : {A : Type 0} (allowed : BoundCol → Bool) (formula : A → Formula) (xs : List A) (f : Formula) → is_sound_formula allowed f ≡ true → Each (λ x. is_sound_formula allowed (formula x) ≡ true) xs → is_sound_formula allowed (all_from f (map formula xs)) ≡ true
all_sound allowed formula [] f h k = h
all_sound allowed formula (x ∷ xs) f h k = all_sound allowed formula xs (And f (formula x)) (two_true _ _ h k.0) k.1

any_sound : {A : Type 0} (allowed : BoundCol → Bool) (formula : A → Formula) (xs : List A) (f : Formula) → is_sound_formula allowed f ≡ true → Each (λ x. is_sound_formula allowed (formula x) ≡ true) xs → is_sound_formula allowed (any_from f (map formula xs)) ≡ true
any_sound allowed formula [] f h k = h
any_sound allowed formula (x ∷ xs) f h k = any_sound allowed formula xs (Or f (formula x)) (two_true _ _ h k.0) k.1

-- a predicate as a condition
cond_sound : (allowed : BoundCol → Bool) (n : Bool) (p : BoundPred) → is_sound_formula allowed (formula_of_pred p) ≡ true → IsSoundCond allowed (roll-BoundCond (record { not = n; pred = p }))
cond_sound allowed n p h = rw (formula_cond_roll (record { not = n; pred = p })) (negated_sound allowed n (formula_of_pred p) h)

-- ---- layers

bracket_sound : (allowed : BoundCol → Bool) (c : Option BoundAny) → IfThere (λ x. is_sound_formula allowed (formula_of_any x) ≡ true) c → IfThere (λ x. is_sound_formula allowed (formula_of_pred x) ≡ true) (bracket c)
bracket_sound allowed None h = tt
bracket_sound allowed (Some c) h = rw (formula_bracket c) h

area_pred_sound : (allowed : BoundCol → Bool) (t : Option AreaTest) → IfThere IsSoundArea t → IfThere (λ x. is_sound_formula allowed (formula_of_pred x) ≡ true) (area_pred t)
area_pred_sound allowed None h = tt
area_pred_sound allowed (Some t) h = rw (formula_area t) h

neg_sound : (allowed : BoundCol → Bool) (n : Bool) (w : Option BoundPred) → IfThere (λ x. is_sound_formula allowed (formula_of_pred x) ≡ true) w → IfThere (IsSoundCond allowed) (neg_by n w)
neg_sound allowed n None h = tt
neg_sound allowed n (Some p) h = cond_sound allowed n p h

listed_sound : (allowed : BoundCol → Bool) (c : Option BoundCond) → IfThere (IsSoundCond allowed) c → Each (IsSoundCond allowed) (option_to_list c)
listed_sound allowed None h = tt
listed_sound allowed (Some c) h = (h, tt)

-- all of them, where each is there
before_sound : {A : Type 0} (P : A → Type 0) (x : Option A) (xs : Option (List A)) → IfThere P x → IfThere (Each P) xs → IfThere (Each P) (before x xs)
before_sound P None xs h k = tt
before_sound P (Some x) None h k = tt
before_sound P (Some x) (Some xs) h k = (h, k)

there_sound : {A : Type 0} (allowed : BoundCol → Bool) (formula : A → Formula) (ws : List (Option A)) → Each (IsSoundWhole allowed formula) ws → IfThere (Each (λ x. is_sound_formula allowed (formula x) ≡ true)) (all_there ws)
there_sound allowed formula [] h = tt
there_sound allowed formula (w ∷ ws) h = before_sound _ w (all_there ws) h.0 (there_sound allowed formula ws h.1)

conj_sound : (allowed : BoundCol → Bool) (c : Option BoundCond) (cs : Option (List BoundCond)) → IfThere (IsSoundCond allowed) c → IfThere (Each (IsSoundCond allowed)) cs → IfThere (λ x. is_sound_formula allowed (formula_of_all x) ≡ true) (conj_by c cs)
conj_sound allowed None cs h k = tt
conj_sound allowed (Some c) None h k = tt
conj_sound allowed (Some c) (Some cs) h k = rw (formula_all_roll (record { first = c; rest = cs })) (all_sound allowed formula_of cs (formula_of c) h k)

any_by_sound : (allowed : BoundCol → Bool) (c : Option BoundAll) (cs : Option (List BoundAll)) → IfThere (λ x. is_sound_formula allowed (formula_of_all x) ≡ true) c → IfThere (Each (λ x. is_sound_formula allowed (formula_of_all x) ≡ true)) cs → IfThere (λ x. is_sound_formula allowed (formula_of_any x) ≡ true) (any_by c cs)
any_by_sound allowed None cs h k = tt
any_by_sound allowed (Some c) None h k = tt
any_by_sound allowed (Some c) (Some cs) h k = rw (formula_any_roll (record { first = c; rest = cs })) (any_sound allowed formula_of_all cs (formula_of_all c) h k)

-- ---- the law

-- the claim of a part: where its expressions are sound and its area tests fit, what it is bound to is sound
abbrev Claim : {A : Type 0} → Meaning → (BoundCol → Bool) → (A → Formula) → Exprs → Tests → Option A → Type 0
Claim means allowed formula exprs tests w = Each (IsSoundExpr means allowed) exprs → Each HasForm tests → IsSoundWhole allowed formula w

claim_as : {A : Type 0} (means : Meaning) (allowed : BoundCol → Bool) (formula : A → Formula) (es es' : Exprs) (ts ts' : Tests) (w w' : Option A) → es ≡ es' → ts ≡ ts' → w ≡ w' → Claim means allowed formula es' ts' w' → Claim means allowed formula es ts w
claim_as means allowed formula es es' ts ts' w w' p q r h =
    subst (λ x. Claim means allowed formula x ts w) (sym p) (subst (λ x. Claim means allowed formula es' x w) (sym q) (subst (λ x. Claim means allowed formula es' ts' x) (sym r) h))

-- the claims of the parts of a layer
spread : {A X : Type 0} (means : Meaning) (allowed : BoundCol → Bool) (formula : A → Formula) (exprs : X → Exprs) (tests : X → Tests) (whole : X → Option A) (xs : List X) → Each (λ x. Claim means allowed formula (exprs x) (tests x) (whole x)) xs → Each (IsSoundExpr means allowed) (joined (map exprs xs)) → Each HasForm (joined (map tests xs)) → Each (IsSoundWhole allowed formula) (map whole xs)
spread means allowed formula exprs tests whole [] h e t = tt
spread means allowed formula exprs tests whole (x ∷ xs) h e t = (
  h.0 (front (IsSoundExpr means allowed) (exprs x) (joined (map exprs xs)) e) (front HasForm (tests x) (joined (map tests xs)) t),
  spread means allowed formula exprs tests whole xs h.1 (back (IsSoundExpr means allowed) (exprs x) (joined (map exprs xs)) e) (back HasForm (tests x) (joined (map tests xs)) t),
)

-- what a predicate with or without NOT is bound to is sound, where its expressions are and its area tests fit
whole_sound : (means : Meaning) (allowed : BoundCol → Bool) (n : Neg) → Claim means allowed formula_of (from_neg exprs_at_pred n) (from_neg within_pred n) (bound_cond means n)
whole_sound means allowed = neg_induction
    (λ p. Claim means allowed formula_of_pred (from_pred exprs_at_pred p) (from_pred within_pred p) (bound_pred means p))
    (λ c. Claim means allowed formula_of_any (from_cond exprs_at_pred c) (from_cond within_pred c) (bound_any means c))
    (λ c. Claim means allowed formula_of_all (from_conj exprs_at_pred c) (from_conj within_pred c) (bound_all means c))
    (λ n. Claim means allowed formula_of (from_neg exprs_at_pred n) (from_neg within_pred n) (bound_cond means n))
    (λ c h. claim_as means allowed formula_of_pred _ (from_cond exprs_at_pred c) _ (from_cond within_pred c) _ (bracket (bound_any means c)) (fold_group exprs_at_pred (λ c. c.first ++ joined c.rest) (λ c. c.first ++ joined c.rest) (λ n. n.pred) c) (fold_group within_pred (λ c. c.first ++ joined c.rest) (λ c. c.first ++ joined c.rest) (λ n. n.pred) c) (bound_group means c) (λ e t. bracket_sound allowed (bound_any means c) (h e t)))
    (λ left op right. claim_as means allowed formula_of_pred _ (left ∷ (right ∷ [])) _ (within_pred (Pred-F.Compare left op right)) _ (Some (bound.Compare (expr_by means left) op (expr_by means right))) (fold_compare exprs_at_pred (λ c. c.first ++ joined c.rest) (λ c. c.first ++ joined c.rest) (λ n. n.pred) left op right) (fold_compare within_pred (λ c. c.first ++ joined c.rest) (λ c. c.first ++ joined c.rest) (λ n. n.pred) left op right) (bound_compare means left op right) (λ h k. rw (formula_compare (expr_by means left) op (expr_by means right)) (two_true _ _ h.0 h.1.0)))
    (λ without value low high. claim_as means allowed formula_of_pred _ (value ∷ (low ∷ (high ∷ []))) _ [] _ (Some (bound.Between without (expr_by means value) (expr_by means low) (expr_by means high))) (fold_between exprs_at_pred (λ c. c.first ++ joined c.rest) (λ c. c.first ++ joined c.rest) (λ n. n.pred) without value low high) (fold_between within_pred (λ c. c.first ++ joined c.rest) (λ c. c.first ++ joined c.rest) (λ n. n.pred) without value low high) (bound_between means without value low high) (λ h k. rw (formula_between without (expr_by means value) (expr_by means low) (expr_by means high)) (negated_sound allowed without _ (two_true _ _ (two_true _ _ h.1.0 h.0) (two_true _ _ h.0 h.1.1.0)))))
    (λ without value list. claim_as means allowed formula_of_pred _ (value ∷ []) _ (within_pred (Pred-F.Among without value list)) _ (Some (bound.Among without (expr_by means value) (values_of list))) (fold_among exprs_at_pred (λ c. c.first ++ joined c.rest) (λ c. c.first ++ joined c.rest) (λ n. n.pred) without value list) (fold_among within_pred (λ c. c.first ++ joined c.rest) (λ c. c.first ++ joined c.rest) (λ n. n.pred) without value list) (bound_among means without value list) (λ h k. rw (formula_among without (expr_by means value) (values_of list)) (negated_sound allowed without _ h.0)))
    (λ without value. claim_as means allowed formula_of_pred _ (value ∷ []) _ [] _ (Some (bound.IsNull without (expr_by means value))) (fold_null exprs_at_pred (λ c. c.first ++ joined c.rest) (λ c. c.first ++ joined c.rest) (λ n. n.pred) without value) (fold_null within_pred (λ c. c.first ++ joined c.rest) (λ c. c.first ++ joined c.rest) (λ n. n.pred) without value) (bound_null means without value) (λ h k. rw (formula_null without (expr_by means value)) (negated_sound allowed without _ h.0)))
    (λ kind span args. claim_as means allowed formula_of_pred _ [] _ (Area kind span args ∷ []) _ (area_pred (area_test kind (values_of args))) (fold_area exprs_at_pred (λ c. c.first ++ joined c.rest) (λ c. c.first ++ joined c.rest) (λ n. n.pred) kind span args) (fold_area within_pred (λ c. c.first ++ joined c.rest) (λ c. c.first ++ joined c.rest) (λ n. n.pred) kind span args) (bound_area means kind span args) (λ h k. area_pred_sound allowed (area_test kind (values_of args)) (area_sound kind (values_of args))))
    (λ left right strict n. claim_as means allowed formula_of_pred _ [] _ (Chord left right strict n ∷ []) _ None (fold_chord exprs_at_pred (λ c. c.first ++ joined c.rest) (λ c. c.first ++ joined c.rest) (λ n. n.pred) left right strict n) (fold_chord within_pred (λ c. c.first ++ joined c.rest) (λ c. c.first ++ joined c.rest) (λ n. n.pred) left right strict n) (bound_chord means left right strict n) (λ h k. tt))
    (λ x h. claim_as means allowed formula_of _ (from_pred exprs_at_pred x.pred) _ (from_pred within_pred x.pred) _ (neg_by x.not (bound_pred means x.pred)) (fold-roll-Neg Exprs Exprs Exprs Exprs exprs_at_pred (λ c. c.first ++ joined c.rest) (λ c. c.first ++ joined c.rest) (λ n. n.pred) x) (fold-roll-Neg Tests Tests Tests Tests within_pred (λ c. c.first ++ joined c.rest) (λ c. c.first ++ joined c.rest) (λ n. n.pred) x) (bound_neg_roll means x) (λ e t. neg_sound allowed x.not (bound_pred means x.pred) (h e t)))
    (λ x h k. claim_as means allowed formula_of_all _ (from_neg exprs_at_pred x.first ++ joined (map (from_neg exprs_at_pred) x.rest)) _ (from_neg within_pred x.first ++ joined (map (from_neg within_pred) x.rest)) _ (conj_by (bound_cond means x.first) (all_there (map (bound_cond means) x.rest))) (fold-roll-Conj Exprs Exprs Exprs Exprs exprs_at_pred (λ c. c.first ++ joined c.rest) (λ c. c.first ++ joined c.rest) (λ n. n.pred) x) (fold-roll-Conj Tests Tests Tests Tests within_pred (λ c. c.first ++ joined c.rest) (λ c. c.first ++ joined c.rest) (λ n. n.pred) x) (bound_conj_roll means x)
    (λ e t. conj_sound allowed (bound_cond means x.first) (all_there (map (bound_cond means) x.rest))
    (h (front (IsSoundExpr means allowed) (from_neg exprs_at_pred x.first) (joined (map (from_neg exprs_at_pred) x.rest)) e) (front HasForm (from_neg within_pred x.first) (joined (map (from_neg within_pred) x.rest)) t))
    (there_sound allowed formula_of (map (bound_cond means) x.rest) (spread means allowed formula_of (from_neg exprs_at_pred) (from_neg within_pred) (bound_cond means) x.rest k (back (IsSoundExpr means allowed) (from_neg exprs_at_pred x.first) (joined (map (from_neg exprs_at_pred) x.rest)) e) (back HasForm (from_neg within_pred x.first) (joined (map (from_neg within_pred) x.rest)) t)))))
    (λ x h k. claim_as means allowed formula_of_any _ (from_conj exprs_at_pred x.first ++ joined (map (from_conj exprs_at_pred) x.rest)) _ (from_conj within_pred x.first ++ joined (map (from_conj within_pred) x.rest)) _ (any_by (bound_all means x.first) (all_there (map (bound_all means) x.rest))) (fold-roll-Cond Exprs Exprs Exprs Exprs exprs_at_pred (λ c. c.first ++ joined c.rest) (λ c. c.first ++ joined c.rest) (λ n. n.pred) x) (fold-roll-Cond Tests Tests Tests Tests within_pred (λ c. c.first ++ joined c.rest) (λ c. c.first ++ joined c.rest) (λ n. n.pred) x) (bound_cond_roll means x)
    (λ e t. any_by_sound allowed (bound_all means x.first) (all_there (map (bound_all means) x.rest))
    (h (front (IsSoundExpr means allowed) (from_conj exprs_at_pred x.first) (joined (map (from_conj exprs_at_pred) x.rest)) e) (front HasForm (from_conj within_pred x.first) (joined (map (from_conj within_pred) x.rest)) t))
    (there_sound allowed formula_of_all (map (bound_all means) x.rest) (spread means allowed formula_of_all (from_conj exprs_at_pred) (from_conj within_pred) (bound_all means) x.rest k (back (IsSoundExpr means allowed) (from_conj exprs_at_pred x.first) (joined (map (from_conj exprs_at_pred) x.rest)) e) (back HasForm (from_conj within_pred x.first) (joined (map (from_conj within_pred) x.rest)) t)))))

-- a conjunct is sound
conjunct_sound : (means : Meaning) (allowed : BoundCol → Bool) (n : Neg) → View n → Each (IsSoundExpr means allowed) (from_neg exprs_at_pred n) → Each FoundForm (found_in n) → Each (IsSoundCond allowed) (bound_conjunct means n)
unfolding within
conjunct_sound means allowed n v e f = listed_sound allowed (bound_cond means n) (whole_sound means allowed n e (in_found HasForm n v f))

-- the conjuncts of a condition are sound, where its expressions are and its area tests fit
pub conjuncts_sound : (means : Meaning) (allowed : BoundCol → Bool) (c : Cond) → Each (IsSoundExpr means allowed) (exprs_of c) → Each FoundForm (flat_map found_in (conjuncts c)) → Each (IsSoundCond allowed) (flat_map (bound_conjunct means) (conjuncts c))
unfolding exprs_of
conjuncts_sound means allowed c e f =
    let exprs = in_parts (IsSoundExpr means allowed) (from_neg exprs_at_pred) (conjuncts c) (subst (Each (IsSoundExpr means allowed)) (from_conjuncts exprs_at_pred (λ c. refl) c) e) in
    of_parts (IsSoundCond allowed) (bound_conjunct means) (conjuncts c)
    (by_two (λ n. Each FoundForm (found_in n)) (λ n. View n × Each (IsSoundExpr means allowed) (from_neg exprs_at_pred n)) (λ n. Each (IsSoundCond allowed) (bound_conjunct means n)) (λ n f' two. conjunct_sound means allowed n two.0 two.1 f') (conjuncts c)
    (in_parts FoundForm found_in (conjuncts c) f)
    (by_two View (λ n. Each (IsSoundExpr means allowed) (from_neg exprs_at_pred n)) (λ n. View n × Each (IsSoundExpr means allowed) (from_neg exprs_at_pred n)) (λ n v e'. (v, e')) (conjuncts c) (views c) exprs))
