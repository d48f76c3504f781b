-- The tests found in a conjunct are those within it.
use Rattle.std.proofs.Common.{◌≡◌, ℤ, Bool, true, false, List, [], ◌∷◌, ◌++◌, map, Option, refl, sym, ap, ◌∙◌, subst}
use Rattle.std.specs.List.{AllByRecursion as Each}
use Rattle.sql_tree.specs.declared.cond.Cond.{Cond}
use Rattle.sql_tree.specs.declared.cond.Conj.{Conj}
use Rattle.sql_tree.specs.declared.cond.Neg.{Neg, roll-Neg}
use Rattle.sql_tree.specs.declared.cond.Pred.TheVariants as pred
use Rattle.sql_tree.specs.declared.cond.AreaKind.{AreaKind}
use Rattle.sql_tree.specs.declared.cond.Cmp.{Cmp}
use Rattle.sql_tree.specs.declared.cond.IntList.{IntList}
use Rattle.sql_tree.specs.declared.expr.Expr.{Expr}
use Rattle.sql_tree.specs.declared.name.Name.{Name}
use Rattle.sql_token.specs.declared.token.Span.{Span}
use Rattle.sql_tree.specs.declared.cond.Pred.{Pred}
use Rattle.sql_tree.specs.declared.cond.Pred.TheOpen.{Pred-F}
use Rattle.bind_rules.specs.Conjuncts.{conjunct, where_conjuncts}
use Rattle.text_rules.specs.Readings.{joined}
use Rattle.bind_rules.specs.Tops.{Test, Tests, Found, found_at, found_by, found_in, test_of, within_pred, within, tests_in, top_tests}
use Rattle.bind_rules.proofs.Each.{mapped, unmapped, weaker, of_parts, in_parts}
use Rattle.bind_rules.proofs.Folds.{fold_group, fold_compare, fold_between, fold_among, fold_null, fold_area, fold_chord}
use Rattle.bind_rules.proofs.Inside.{from_pred, from_cond, from_conjunct}
use Rattle.bind_rules.proofs.Views.{View, Negated, Either, Compared, IsBetween, IsAmong, Null, InArea, OfChord, leaf_test, negated_test, group_test, compare_test, between_test, among_test, null_test, area_test_of, chord_test}

-- the tests of what was found
abbrev pub tests_found : List Found → Tests
tests_found = map (λ f. f.test)

tests_back : (top : Bool) (ts : Tests) → tests_found (map (found_at top) ts) ≡ ts
tests_back top [] = refl
tests_back top (t ∷ ts) = ap (λ us. t ∷ us) (tests_back top ts)

found_same : (ts : Tests) → tests_found (found_by ts ts) ≡ ts
found_same [] = refl
found_same (t ∷ ts) = tests_back true (t ∷ ts)

none_tests : (n : Neg) → test_of n ≡ [] → tests_found (found_in n) ≡ within n
unfolding found_in
none_tests n none = ap (λ ts. tests_found (found_by ts (within n))) none ∙ tests_back false (within n)

same_tests : (n : Neg) (ts : Tests) → test_of n ≡ ts → within n ≡ ts → tests_found (found_in n) ≡ within n
unfolding found_in
same_tests n ts is inner =
    ap (λ us. tests_found (found_by us (within n))) is ∙ ap (λ us. tests_found (found_by ts us)) inner ∙ found_same ts ∙ sym inner

within_lone : (p : Pred) (ts : Tests) → from_pred within_pred p ≡ ts → within (conjunct p) ≡ ts
unfolding within
within_lone p ts h = from_conjunct within_pred false p ∙ h

pub found_tests : (n : Neg) → View n → tests_found (found_in n) ≡ within n
found_tests n (Negated p is) = none_tests n (ap test_of is ∙ negated_test p)
found_tests n (Either first second rest is) = none_tests n (ap test_of is ∙ group_test _)
found_tests n (Compared left op right is) =
    same_tests n (leaf_test (Pred-F.Compare left op right)) (ap test_of is ∙ compare_test left op right)
    (ap within is ∙ within_lone _ _ (fold_compare within_pred (λ c. c.first ++ joined c.rest) (λ c. c.first ++ joined c.rest) (λ n. n.pred) left op right))
found_tests n (IsBetween without value low high is) = none_tests n (ap test_of is ∙ between_test without value low high)
found_tests n (IsAmong without value list is) =
    same_tests n (leaf_test (Pred-F.Among without value list)) (ap test_of is ∙ among_test without value list)
    (ap within is ∙ within_lone _ _ (fold_among within_pred (λ c. c.first ++ joined c.rest) (λ c. c.first ++ joined c.rest) (λ n. n.pred) without value list))
found_tests n (Null without value is) = none_tests n (ap test_of is ∙ null_test without value)
found_tests n (InArea kind span args is) =
    same_tests n (leaf_test (Pred-F.Area kind span args)) (ap test_of is ∙ area_test_of kind span args)
    (ap within is ∙ within_lone _ _ (fold_area within_pred (λ c. c.first ++ joined c.rest) (λ c. c.first ++ joined c.rest) (λ n. n.pred) kind span args))
found_tests n (OfChord left right strict m is) =
    same_tests n (leaf_test (Pred-F.Chord left right strict m)) (ap test_of is ∙ chord_test left right strict m)
    (ap within is ∙ within_lone _ _ (fold_chord within_pred (λ c. c.first ++ joined c.rest) (λ c. c.first ++ joined c.rest) (λ n. n.pred) left right strict m))

-- what holds of each test within a conjunct holds of each that is found, and the other way
pub of_found : (P : Test → Type 0) (n : Neg) → View n → Each P (within n) → Each (λ f. P f.test) (found_in n)
of_found P n v h = unmapped P (λ f. f.test) (found_in n) (subst (Each P) (sym (found_tests n v)) h)

pub in_found : (P : Test → Type 0) (n : Neg) → View n → Each (λ f. P f.test) (found_in n) → Each P (within n)
in_found P n v h = subst (Each P) (found_tests n v) (mapped P (λ f. f.test) (found_in n) h)

-- and of the test that the conjunct is
pub at_top : (P : Test → Type 0) (ts inner : Tests) → Each (λ f. P f.test) (found_by ts inner) → Each P ts
at_top P [] inner h = tt
at_top P (t ∷ ts) inner h = subst (Each P) (tests_back true (t ∷ ts)) (mapped P (λ f. f.test) (map (found_at true) (t ∷ ts)) h)

-- what holds of each test of WHERE holds of those among its conjuncts
pub tops_found : (P : Test → Type 0) (w : Option Cond) → Each (λ f. P f.test) (tests_in w) → Each P (top_tests w)
unfolding found_in
tops_found P w h =
    of_parts P test_of (where_conjuncts w)
    (weaker (λ n. Each (λ f. P f.test) (found_in n)) (λ n. Each P (test_of n)) (λ n. at_top P (test_of n) (within n)) (where_conjuncts w)
    (in_parts (λ f. P f.test) found_in (where_conjuncts w) h))

-- ---- what is found in a conjunct that is written out

found_one : (n : Neg) (ts inner : Tests) → test_of n ≡ ts → within n ≡ inner → found_in n ≡ found_by ts inner
unfolding found_in
found_one n ts inner is holds = ap (λ us. found_by us (within n)) is ∙ ap (found_by ts) holds

found_all : (ts : Tests) → found_by ts ts ≡ map (found_at true) ts
found_all [] = refl
found_all (t ∷ ts) = refl

pub within_roll : (b : Bool) (p : Pred) → within (roll-Neg (record { not = b; pred = p })) ≡ from_pred within_pred p
unfolding within
within_roll b p = from_conjunct within_pred b p

pub found_negated : (p : Pred) → found_in (roll-Neg (record { not = true; pred = p })) ≡ map (found_at false) (from_pred within_pred p)
found_negated p = found_one _ [] _ (negated_test p) (within_roll true p)

pub found_group : (c : Cond) → found_in (conjunct (pred.Bracket c)) ≡ map (found_at false) (from_cond within_pred c)
found_group c = found_one _ [] _ (group_test c) (within_roll false (pred.Bracket c) ∙ fold_group within_pred (λ c. c.first ++ joined c.rest) (λ c. c.first ++ joined c.rest) (λ n. n.pred) c)

found_leaf : (p : Pred) (ts : Tests) → test_of (conjunct p) ≡ ts → from_pred within_pred p ≡ ts → found_in (conjunct p) ≡ map (found_at true) ts
found_leaf p ts is holds = found_one (conjunct p) ts ts is (within_roll false p ∙ holds) ∙ found_all ts

pub found_compare : (left : Expr) (op : Cmp) (right : Expr) → found_in (conjunct (pred.Compare left op right)) ≡ map (found_at true) (leaf_test (Pred-F.Compare left op right))
found_compare left op right = found_leaf _ _ (compare_test left op right) (fold_compare within_pred (λ c. c.first ++ joined c.rest) (λ c. c.first ++ joined c.rest) (λ n. n.pred) left op right)

pub found_between : (without : Bool) (value low high : Expr) → found_in (conjunct (pred.Between without value low high)) ≡ []
found_between without value low high = found_leaf _ [] (between_test without value low high) (fold_between within_pred (λ c. c.first ++ joined c.rest) (λ c. c.first ++ joined c.rest) (λ n. n.pred) without value low high)

pub found_among : (without : Bool) (value : Expr) (list : IntList) → found_in (conjunct (pred.Among without value list)) ≡ map (found_at true) (leaf_test (Pred-F.Among without value list))
found_among without value list = found_leaf _ _ (among_test without value list) (fold_among within_pred (λ c. c.first ++ joined c.rest) (λ c. c.first ++ joined c.rest) (λ n. n.pred) without value list)

pub found_null : (without : Bool) (value : Expr) → found_in (conjunct (pred.IsNull without value)) ≡ []
found_null without value = found_leaf _ [] (null_test without value) (fold_null within_pred (λ c. c.first ++ joined c.rest) (λ c. c.first ++ joined c.rest) (λ n. n.pred) without value)

pub found_area : (kind : AreaKind) (span : Span) (args : IntList) → found_in (conjunct (pred.Area kind span args)) ≡ map (found_at true) (leaf_test (Pred-F.Area kind span args))
found_area kind span args = found_leaf _ _ (area_test_of kind span args) (fold_area within_pred (λ c. c.first ++ joined c.rest) (λ c. c.first ++ joined c.rest) (λ n. n.pred) kind span args)

pub found_chord : (left right : Name) (strict : Bool) (n : ℤ) → found_in (conjunct (pred.Chord left right strict n)) ≡ map (found_at true) (leaf_test (Pred-F.Chord left right strict n))
found_chord left right strict n = found_leaf _ _ (chord_test left right strict n) (fold_chord within_pred (λ c. c.first ++ joined c.rest) (λ c. c.first ++ joined c.rest) (λ n. n.pred) left right strict n)
