-- In a query that binds each conjunct of WHERE has a bound condition, but for the chord test.
use Rattle.std.proofs.Common.{◌≡◌, ℤ, Bool, true, false, List, [], ◌∷◌, ◌++◌, map, Option, Some, None, refl, sym, ap, ◌∙◌, subst}
use Rattle.std.specs.List.{AllByRecursion as Each, list_any}
use Rattle.std.specs.Option.{is_some}
use Rattle.sql_token.specs.declared.token.Span.{Span}
use Rattle.sql_bound.specs.declared.area.AreaTest.{AreaTest}
use Rattle.sql_bound.specs.declared.cond.BoundAll.{BoundAll}
use Rattle.sql_bound.specs.declared.cond.BoundAny.{BoundAny}
use Rattle.sql_bound.specs.declared.cond.BoundCond.{BoundCond}
use Rattle.sql_bound.specs.declared.cond.BoundPred.{BoundPred}
use Rattle.sql_bound.specs.declared.cond.BoundPred.TheVariants as bound
use Rattle.sql_tree.specs.declared.cond.AreaKind.{AreaKind}
use Rattle.sql_tree.specs.declared.cond.Cmp.{Cmp}
use Rattle.sql_tree.specs.declared.cond.Cmp.TheVariants as cmp
use Rattle.sql_tree.specs.declared.cond.Cond.{roll-Cond}
use Rattle.sql_tree.specs.declared.cond.IntList.{IntList}
use Rattle.sql_tree.specs.declared.cond.Neg.{Neg}
use Rattle.sql_tree.specs.declared.cond.Pred.{Pred}
use Rattle.sql_tree.specs.declared.cond.Pred.TheFolds.{fold-roll-Cond, fold-roll-Conj, fold-roll-Neg}
use Rattle.sql_tree.specs.declared.cond.Pred.TheOpen.{Pred-F}
use Rattle.sql_tree.specs.declared.cond.Pred.TheVariants as pred
use Rattle.sql_tree.specs.declared.expr.Expr.{Expr}
use Rattle.sql_tree.specs.declared.name.Name.{Name}
use Rattle.bind_rules.specs.Areas.{area_test}
use Rattle.bind_rules.specs.BoundWhere.{is_chord}
use Rattle.bind_rules.specs.Bounds.{Meaning, expr_by}
use Rattle.bind_rules.specs.Conjuncts.{conjunct}
use Rattle.bind_rules.specs.Forms.{values_of, is_area_form}
use Rattle.text_rules.specs.Readings.{joined}
use Rattle.bind_rules.specs.Tops.{Test, Tests, Area, Chord, Equals, Listed, Found, found_at, found_in, test_of, within_pred, within}
use Rattle.bind_rules.specs.Wholes.{area_pred, bracket, before, all_there, conj_by, any_by, neg_by, bound_pred, bound_any, bound_all, bound_cond}
use Rattle.bind_rules.proofs.Conds.{HasForm}
use Rattle.bind_rules.proofs.Each.{front, back}
use Rattle.bind_rules.proofs.Folds.{fold_group, fold_compare, fold_between, fold_among, fold_null, fold_area, fold_chord}
use Rattle.bind_rules.proofs.Found.{in_found, found_negated, found_group, found_area}
use Rattle.bind_rules.proofs.Inductions.{neg_induction}
use Rattle.bind_rules.proofs.Inside.{from_pred, from_cond, from_conj, from_neg}
use Rattle.bind_rules.proofs.Views.{View, Negated, Either, Compared, IsBetween, IsAmong, Null, InArea, OfChord, leaf_test, negated_test, group_test, compare_test, between_test, among_test, null_test, area_test_of, chord_test}
use Rattle.bind_rules.proofs.Wholes.{bound_group, bound_compare, bound_between, bound_among, bound_null, bound_area, bound_chord, bound_neg_roll, bound_conj_roll, bound_cond_roll}

-- ---- what holds only tests that have a place in a bound condition is bound

-- the test has a place in a bound condition
abbrev HasPlace : Test → Type 0
HasPlace (Area kind span args) = is_some (area_test kind (values_of args)) ≡ true
HasPlace (Chord left right strict n) = false ≡ true
HasPlace (Equals left right) = Unit {0}
HasPlace (Listed value list) = Unit {0}

bracket_there : (c : Option BoundAny) → is_some c ≡ true → is_some (bracket c) ≡ true
bracket_there None h = h
bracket_there (Some c) h = refl

area_there : (t : Option AreaTest) → is_some t ≡ true → is_some (area_pred t) ≡ true
area_there None h = h
area_there (Some t) h = refl

neg_there : (b : Bool) (w : Option BoundPred) → is_some w ≡ true → is_some (neg_by b w) ≡ true
neg_there b None h = h
neg_there b (Some p) h = refl

before_there : {A : Type 0} (w : Option A) (ws : Option (List A)) → is_some w ≡ true → is_some ws ≡ true → is_some (before w ws) ≡ true
before_there None ws h k = h
before_there (Some x) None h k = k
before_there (Some x) (Some xs) h k = refl

conj_there : (c : Option BoundCond) (cs : Option (List BoundCond)) → is_some c ≡ true → is_some cs ≡ true → is_some (conj_by c cs) ≡ true
conj_there None cs h k = h
conj_there (Some c) None h k = k
conj_there (Some c) (Some cs) h k = refl

any_there : (c : Option BoundAll) (cs : Option (List BoundAll)) → is_some c ≡ true → is_some cs ≡ true → is_some (any_by c cs) ≡ true
any_there None cs h k = h
any_there (Some c) None h k = k
any_there (Some c) (Some cs) h k = refl

abbrev Claim : {A : Type 0} → Tests → Option A → Type 0
Claim ts w = Each HasPlace ts → is_some w ≡ true

claim_as : {A : Type 0} (ts ts' : Tests) (w w' : Option A) → ts ≡ ts' → w ≡ w' → Claim ts' w' → Claim ts w
claim_as ts ts' w w' p q h = subst (λ x. Claim x w) (sym p) (subst (λ x. Claim ts' x) (sym q) h)

rest_there : {A X : Type 0} (tests : X → Tests) (whole : X → Option A) (xs : List X) → Each (λ x. Claim (tests x) (whole x)) xs → Each HasPlace (joined (map tests xs)) → is_some (all_there (map whole xs)) ≡ true
rest_there tests whole [] h t = refl
rest_there tests whole (x ∷ xs) h t =
    before_there (whole x) (all_there (map whole xs)) (h.0 (front HasPlace (tests x) (joined (map tests xs)) t))
    (rest_there tests whole xs h.1 (back HasPlace (tests x) (joined (map tests xs)) t))

whole_there : (means : Meaning) (n : Neg) → Claim (from_neg within_pred n) (bound_cond means n)
whole_there means = neg_induction
    (λ p. Claim (from_pred within_pred p) (bound_pred means p))
    (λ c. Claim (from_cond within_pred c) (bound_any means c))
    (λ c. Claim (from_conj within_pred c) (bound_all means c))
    (λ n. Claim (from_neg within_pred n) (bound_cond means n))
    (λ c h. claim_as _ (from_cond within_pred c) _ (bracket (bound_any means c)) (fold_group within_pred (λ c. c.first ++ joined c.rest) (λ c. c.first ++ joined c.rest) (λ n. n.pred) c) (bound_group means c) (λ t. bracket_there (bound_any means c) (h t)))
    (λ left op right. claim_as _ (within_pred (Pred-F.Compare left op right)) _ (Some (bound.Compare (expr_by means left) op (expr_by means right))) (fold_compare within_pred (λ c. c.first ++ joined c.rest) (λ c. c.first ++ joined c.rest) (λ n. n.pred) left op right) (bound_compare means left op right) (λ t. refl))
    (λ without value low high. claim_as _ [] _ (Some (bound.Between without (expr_by means value) (expr_by means low) (expr_by means high))) (fold_between within_pred (λ c. c.first ++ joined c.rest) (λ c. c.first ++ joined c.rest) (λ n. n.pred) without value low high) (bound_between means without value low high) (λ t. refl))
    (λ without value list. claim_as _ (within_pred (Pred-F.Among without value list)) _ (Some (bound.Among without (expr_by means value) (values_of list))) (fold_among within_pred (λ c. c.first ++ joined c.rest) (λ c. c.first ++ joined c.rest) (λ n. n.pred) without value list) (bound_among means without value list) (λ t. refl))
    (λ without value. claim_as _ [] _ (Some (bound.IsNull without (expr_by means value))) (fold_null within_pred (λ c. c.first ++ joined c.rest) (λ c. c.first ++ joined c.rest) (λ n. n.pred) without value) (bound_null means without value) (λ t. refl))
    (λ kind span args. claim_as _ (Area kind span args ∷ []) _ (area_pred (area_test kind (values_of args))) (fold_area within_pred (λ c. c.first ++ joined c.rest) (λ c. c.first ++ joined c.rest) (λ n. n.pred) kind span args) (bound_area means kind span args) (λ t. area_there (area_test kind (values_of args)) t.0))
    (λ left right strict n. claim_as _ (Chord left right strict n ∷ []) _ None (fold_chord within_pred (λ c. c.first ++ joined c.rest) (λ c. c.first ++ joined c.rest) (λ n. n.pred) left right strict n) (bound_chord means left right strict n) (λ t. t.0))
    (λ x h. claim_as _ (from_pred within_pred x.pred) _ (neg_by x.not (bound_pred means x.pred)) (fold-roll-Neg Tests Tests Tests Tests within_pred (λ c. c.first ++ joined c.rest) (λ c. c.first ++ joined c.rest) (λ n. n.pred) x) (bound_neg_roll means x) (λ t. neg_there x.not (bound_pred means x.pred) (h t)))
    (λ x h k. claim_as _ (from_neg within_pred x.first ++ joined (map (from_neg within_pred) x.rest)) _ (conj_by (bound_cond means x.first) (all_there (map (bound_cond means) x.rest))) (fold-roll-Conj Tests Tests Tests Tests within_pred (λ c. c.first ++ joined c.rest) (λ c. c.first ++ joined c.rest) (λ n. n.pred) x) (bound_conj_roll means x)
    (λ t. conj_there (bound_cond means x.first) (all_there (map (bound_cond means) x.rest))
    (h (front HasPlace (from_neg within_pred x.first) (joined (map (from_neg within_pred) x.rest)) t))
    (rest_there (from_neg within_pred) (bound_cond means) x.rest k (back HasPlace (from_neg within_pred x.first) (joined (map (from_neg within_pred) x.rest)) t))))
    (λ x h k. claim_as _ (from_conj within_pred x.first ++ joined (map (from_conj within_pred) x.rest)) _ (any_by (bound_all means x.first) (all_there (map (bound_all means) x.rest))) (fold-roll-Cond Tests Tests Tests Tests within_pred (λ c. c.first ++ joined c.rest) (λ c. c.first ++ joined c.rest) (λ n. n.pred) x) (bound_cond_roll means x)
    (λ t. any_there (bound_all means x.first) (all_there (map (bound_all means) x.rest))
    (h (front HasPlace (from_conj within_pred x.first) (joined (map (from_conj within_pred) x.rest)) t))
    (rest_there (from_conj within_pred) (bound_all means) x.rest k (back HasPlace (from_conj within_pred x.first) (joined (map (from_conj within_pred) x.rest)) t))))

-- ---- the tests of a query that binds

-- a chord test is at the top
abbrev pub IsTopChord : Test → Bool → Type 0
IsTopChord (Chord left right strict n) top = top ≡ true
IsTopChord t top = Unit {0}

-- the arguments of an area test fit, and a chord test is at the top
abbrev pub IsGood : Found → Type 0
IsGood f = HasForm f.test × IsTopChord f.test f.top

place_of : (t : Test) → HasForm t → IsTopChord t false → HasPlace t
place_of (Area kind span args) h k = h
place_of (Chord left right strict n) h k = k
place_of (Equals left right) h k = tt
place_of (Listed value list) h k = tt

abbrev FoundPlace : Found → Type 0
FoundPlace f = HasPlace f.test

inner_places : (ts : Tests) → Each IsGood (map (found_at false) ts) → Each FoundPlace (map (found_at false) ts)
inner_places [] h = tt
inner_places (t ∷ ts) h = (place_of t h.0.0 h.0.1, inner_places ts h.1)

-- a conjunct whose tests are not at the top
inner_there : (means : Meaning) (n : Neg) → View n → (ts : Tests) → found_in n ≡ map (found_at false) ts → Each IsGood (found_in n) → is_some (bound_cond means n) ≡ true
unfolding within
inner_there means n v ts is h =
    whole_there means n (in_found HasPlace n v (subst (Each FoundPlace) (sym is) (inner_places ts (subst (Each IsGood) is h))))

-- ---- what becomes of a conjunct

-- A conjunct becomes a condition, or it is a chord test.
pub data Kept (means : Meaning) (n : Neg) : Type 0 where
  AsCondition : (c : BoundCond) → bound_cond means n ≡ Some c → list_any is_chord (test_of n) ≡ false → Kept means n
  AsLimit : (left right : Name) (strict : Bool) (n' : ℤ) → n ≡ conjunct (pred.Chord left right strict n') → Kept means n

kept_by : (means : Meaning) (n : Neg) (w : Option BoundCond) (ts : Tests) → bound_cond means n ≡ w → is_some w ≡ true → test_of n ≡ ts → list_any is_chord ts ≡ false → Kept means n
kept_by means n None ts is h tests free = absurd cc
kept_by means n (Some c) ts is h tests free = AsCondition c is (ap (list_any is_chord) tests ∙ free)

leaf_kept : (means : Meaning) (n : Neg) (x : Pred) (w : Option BoundPred) (ts : Tests) → n ≡ conjunct x → bound_pred means x ≡ w → is_some w ≡ true → test_of (conjunct x) ≡ ts → list_any is_chord ts ≡ false → Kept means n
leaf_kept means n x w ts is as_bound h tests free =
    kept_by means n (neg_by false w) ts (ap (bound_cond means) is ∙ bound_neg_roll means (record { not = false; pred = x }) ∙ ap (neg_by false) as_bound) (neg_there false w h) (ap test_of is ∙ tests) free

compare_free : (left right : Expr) (op : Cmp) → list_any is_chord (leaf_test (Pred-F.Compare left op right)) ≡ false
compare_free left right cmp.Equal = refl
compare_free left right cmp.Differs = refl
compare_free left right cmp.Less = refl
compare_free left right cmp.AtMost = refl
compare_free left right cmp.More = refl
compare_free left right cmp.AtLeast = refl

among_free : (without : Bool) (value : Expr) (list : IntList) → list_any is_chord (leaf_test (Pred-F.Among without value list)) ≡ false
among_free true value list = refl
among_free false value list = refl

area_form_of : (kind : AreaKind) (span : Span) (args : IntList) → Each IsGood (map (found_at true) (leaf_test (Pred-F.Area kind span args))) → is_area_form kind (values_of args) ≡ true
area_form_of kind span args h = h.0.0

pub conjunct_kept : (means : Meaning) (n : Neg) → View n → Each IsGood (found_in n) → Kept means n
conjunct_kept means n (Negated x is) h =
    kept_by means n (bound_cond means n) [] refl (inner_there means n (Negated x is) (from_pred within_pred x) (ap found_in is ∙ found_negated x) h) (ap test_of is ∙ negated_test x) refl
conjunct_kept means n (Either first second rest is) h =
    kept_by means n (bound_cond means n) [] refl
    (inner_there means n (Either first second rest is) (from_cond within_pred (roll-Cond (record { first = first; rest = second ∷ rest }))) (ap found_in is ∙ found_group (roll-Cond (record { first = first; rest = second ∷ rest }))) h)
    (ap test_of is ∙ group_test (roll-Cond (record { first = first; rest = second ∷ rest }))) refl
conjunct_kept means n (Compared left op right is) h =
    leaf_kept means n (pred.Compare left op right) (Some (bound.Compare (expr_by means left) op (expr_by means right))) (leaf_test (Pred-F.Compare left op right)) is (bound_compare means left op right) refl (compare_test left op right) (compare_free left right op)
conjunct_kept means n (IsBetween without value low high is) h =
    leaf_kept means n (pred.Between without value low high) (Some (bound.Between without (expr_by means value) (expr_by means low) (expr_by means high))) [] is (bound_between means without value low high) refl (between_test without value low high) refl
conjunct_kept means n (IsAmong without value list is) h =
    leaf_kept means n (pred.Among without value list) (Some (bound.Among without (expr_by means value) (values_of list))) (leaf_test (Pred-F.Among without value list)) is (bound_among means without value list) refl (among_test without value list) (among_free without value list)
conjunct_kept means n (Null without value is) h =
    leaf_kept means n (pred.IsNull without value) (Some (bound.IsNull without (expr_by means value))) [] is (bound_null means without value) refl (null_test without value) refl
conjunct_kept means n (InArea kind span args is) h =
    leaf_kept means n (pred.Area kind span args) (area_pred (area_test kind (values_of args))) (Area kind span args ∷ []) is (bound_area means kind span args)
    (area_there (area_test kind (values_of args)) (area_form_of kind span args (subst (Each IsGood) (ap found_in is ∙ found_area kind span args) h)))
    (area_test_of kind span args) refl
conjunct_kept means n (OfChord left right strict n' is) h = AsLimit left right strict n' is

-- a conjunct that is a chord test has no condition
pub chord_is_left_out : (means : Meaning) (n : Neg) (left right : Name) (strict : Bool) (n' : ℤ) → n ≡ conjunct (pred.Chord left right strict n') → bound_cond means n ≡ None
chord_is_left_out means n left right strict n' is =
    ap (bound_cond means) is ∙ bound_neg_roll means (record { not = false; pred = pred.Chord left right strict n' }) ∙ ap (neg_by false) (bound_chord means left right strict n')

pub chord_is_tested : (n : Neg) (left right : Name) (strict : Bool) (n' : ℤ) → n ≡ conjunct (pred.Chord left right strict n') → test_of n ≡ Chord left right strict n' ∷ []
chord_is_tested n left right strict n' is = ap test_of is ∙ chord_test left right strict n'
