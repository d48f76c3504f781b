-- What a walk meets is what the conjuncts hold.
use Rattle.std.proofs.Common.{◌≡◌, Bool, true, false, List, [], ◌∷◌, ◌++◌, map, Option, None, Some, refl, sym, ap, ◌∙◌, append-nil, if◌then◌else◌}
use Rattle.std.specs.Prelude.{◌&&◌, not}
use Rattle.std.specs.List.{AllByRecursion as Each, flat_map}
use Rattle.std.proofs.lemmas.List.{map-append}
use Rattle.sql_tree.specs.declared.cond.Cond.{Cond, roll-Cond}
use Rattle.sql_tree.specs.declared.cond.Conj.{Conj, roll-Conj}
use Rattle.sql_tree.specs.declared.cond.Neg.{Neg, roll-Neg}
use Rattle.sql_tree.specs.declared.cond.Pred.{Pred}
use Rattle.sql_tree.specs.declared.cond.Pred.TheFolds.{fold-roll-Cond, fold-roll-Conj, fold-roll-Neg}
use Rattle.sql_tree.specs.declared.cond.Pred.TheOpen.{Cond-F, Conj-F, Neg-F, Pred-F}
use Rattle.sql_tree.specs.declared.cond.Pred.TheVariants as pred
use Rattle.bind_rules.specs.Conjuncts.{conjunct, conjuncts, conjuncts_of_conj, conjuncts_of_neg, conjuncts_of_pred, or_conjuncts, where_conjuncts}
use Rattle.text_rules.specs.Readings.{joined}
use Rattle.bind_rules.specs.Tops.{Test, Tests, Found, found_at, found_by, found_in, test_of, top_tests, tests_in, within_pred, within}
use Rattle.bind_rules.proofs.Apart.{group_apart, compare_apart, between_apart, among_apart, null_apart, area_apart, chord_apart, neg_apart, conj_apart, cond_apart}
use Rattle.bind_rules.proofs.Each.{flat_append, flat_twice}
use Rattle.bind_rules.proofs.Folds.{fold_group, fold_compare, fold_between, fold_among, fold_null, fold_area, fold_chord}
use Rattle.bind_rules.proofs.Found.{tests_found}
use Rattle.bind_rules.proofs.Inductions.{cond_induction}
use Rattle.bind_rules.proofs.Inside.{from_pred, from_cond, from_conj, from_neg, from_conjunct}
use Rattle.bind_rules.proofs.Views.{leaf_test, negated_test, group_test, compare_test, between_test, among_test, null_test, area_test_of, chord_test}
use Rattle.query_walks.specs.Behind.{top_only}
use Rattle.query_walks.specs.Gathering.{tests_of_conj, tests_of_neg, tests_of_pred}
use Rattle.query_walks.specs.Walks.{Founds, kept_if, is_alone, tests_at_pred, tests_at_cond, tests_at_conj, tests_at_neg, tests_of}
use Rattle.query_walks.proofs.TestWalks.{kept_at_top}

-- ---- tests with and without their places

tests_back : (top : Bool) (ts : Tests) → tests_found (map (found_at top) ts) ≡ ts
tests_back top [] = refl
tests_back top (t ∷ ts) = ap (λ us. t ∷ us) (tests_back top ts)

tests_kept : (b : Bool) (fs : Founds) → tests_found (kept_if b fs) ≡ tests_found fs
tests_kept b [] = refl
tests_kept b (f ∷ fs) = ap (λ ts. f.test ∷ ts) (tests_kept b fs)

none_kept : (fs : Founds) → kept_if false fs ≡ map (found_at false) (tests_found fs)
none_kept [] = refl
none_kept (f ∷ fs) = ap (λ gs. found_at false f.test ∷ gs) (none_kept fs)

found_all : (ts : Tests) → found_by ts ts ≡ map (found_at true) ts
found_all [] = refl
found_all (t ∷ ts) = refl

found_both : (fs gs : Founds) → tests_found (fs ++ gs) ≡ tests_found fs ++ tests_found gs
found_both fs gs = map-append _ fs gs

-- ---- the claim of a part: it is walked as its conjuncts are, over the tests that it holds

pub record Walked (fs : Founds) (ns : List Neg) (ts : Tests) : Type 0 where
  pub found : fs ≡ flat_map found_in ns
  pub tests : tests_found fs ≡ ts

walked_as : (fs fs' : Founds) (ns ns' : List Neg) (ts ts' : Tests) → fs ≡ fs' → ns ≡ ns' → ts ≡ ts' → Walked fs' ns' ts' → Walked fs ns ts
walked_as fs fs' ns ns' ts ts' p q r h = record {
  found = p ∙ h.found ∙ ap (flat_map found_in) (sym q);
  tests = ap tests_found p ∙ h.tests ∙ sym r;
}

-- a conjunct with these tests
one_found : (n : Neg) (ts inner : Tests) → test_of n ≡ ts → within n ≡ inner → flat_map found_in (n ∷ []) ≡ found_by ts inner
unfolding found_in
one_found n ts inner is holds =
    append-nil (found_in n) ∙ ap (λ us. found_by us (within n)) is ∙ ap (found_by ts) holds

within_roll : (b : Bool) (p : Pred) → within (roll-Neg (record { not = b; pred = p })) ≡ from_pred within_pred p
unfolding within
within_roll b p = from_conjunct within_pred b p

-- a predicate that is no bracket
leaf_walked : (p : Pred) (ts : Tests) → conjuncts_of_pred p ≡ conjunct p ∷ [] → test_of (conjunct p) ≡ ts → from_pred within_pred p ≡ ts → tests_of_pred p ≡ map (found_at true) ts → Walked (tests_of_pred p) (conjuncts_of_pred p) (from_pred within_pred p)
leaf_walked p ts apart is holds met =
    walked_as _ (map (found_at true) ts) _ (conjunct p ∷ []) _ ts met apart holds (record {
      found = sym (one_found (conjunct p) ts ts is (within_roll false p ∙ holds) ∙ found_all ts);
      tests = tests_back true ts;
    })

-- ---- layers

neg_walked : (x : Neg-F Pred Cond Conj Neg) (b : Bool) → x.not ≡ b → Walked (tests_of_pred x.pred) (conjuncts_of_pred x.pred) (from_pred within_pred x.pred) → Walked (kept_if (not b) (tests_of_pred x.pred)) (if b then roll-Neg x ∷ [] else conjuncts_of_pred x.pred) (from_pred within_pred x.pred)
neg_walked x true is h =
    let same = ap (λ b. roll-Neg (record { not = b; pred = x.pred })) is in
    record {
      found = none_kept (tests_of_pred x.pred) ∙ ap (map (found_at false)) h.tests
          ∙ sym (one_found (roll-Neg x) [] (from_pred within_pred x.pred) (ap test_of same ∙ negated_test x.pred) (within_roll x.not x.pred));
      tests = tests_kept false (tests_of_pred x.pred) ∙ h.tests;
    }
neg_walked x false is h = record {
  found = kept_at_top (tests_of_pred x.pred) ∙ h.found;
  tests = tests_kept true (tests_of_pred x.pred) ∙ h.tests;
}

rest_walked : {X : Type 0} (met : X → Founds) (apart : X → List Neg) (holds : X → Tests) (xs : List X) → Each (λ x. Walked (met x) (apart x) (holds x)) xs → Walked (joined (map met xs)) (flat_map apart xs) (joined (map holds xs))
rest_walked met apart holds [] h = record { found = refl; tests = refl }
rest_walked met apart holds (x ∷ xs) h =
    let rest = rest_walked met apart holds xs h.1 in
    record {
      found = ap (λ t. t ++ joined (map met xs)) h.0.found ∙ ap (λ t. flat_map found_in (apart x) ++ t) rest.found ∙ sym (flat_append found_in (apart x) (flat_map apart xs));
      tests = found_both (met x) (joined (map met xs)) ∙ ap (λ t. t ++ tests_found (joined (map met xs))) h.0.tests ∙ ap (λ t. holds x ++ t) rest.tests;
    }

layer_walked : {X : Type 0} (fs : Founds) (ns : List Neg) (ts : Tests) (met : X → Founds) (apart : X → List Neg) (holds : X → Tests) (xs : List X) → Walked fs ns ts → Each (λ x. Walked (met x) (apart x) (holds x)) xs → Walked (fs ++ joined (map met xs)) (ns ++ flat_map apart xs) (ts ++ joined (map holds xs))
layer_walked fs ns ts met apart holds xs h k =
    let rest = rest_walked met apart holds xs k in
    record {
      found = ap (λ t. t ++ joined (map met xs)) h.found ∙ ap (λ t. flat_map found_in ns ++ t) rest.found ∙ sym (flat_append found_in ns (flat_map apart xs));
      tests = found_both fs (joined (map met xs)) ∙ ap (λ t. t ++ tests_found (joined (map met xs))) h.tests ∙ ap (λ t. ts ++ t) rest.tests;
    }

-- an OR of several parts, or the one part
or_walked : (c : Cond) (fs : Founds) (ns : List Neg) (ts : Tests) (xs : List Conj) → from_cond within_pred c ≡ ts ++ joined (map (from_conj within_pred) xs) → Walked fs ns ts → Each (λ x. Walked (tests_of_conj x) (conjuncts_of_conj x) (from_conj within_pred x)) xs → Walked (kept_if (is_alone (map tests_of_conj xs)) (fs ++ joined (map tests_of_conj xs))) (or_conjuncts c ns xs) (ts ++ joined (map (from_conj within_pred) xs))
or_walked c fs ns ts [] holds h k = record {
  found = kept_at_top (fs ++ []) ∙ append-nil fs ∙ h.found;
  tests = tests_kept true (fs ++ []) ∙ ap tests_found (append-nil fs) ∙ h.tests ∙ sym (append-nil ts);
}
or_walked c fs ns ts (x ∷ xs) holds h k =
    let all = layer_walked fs ns ts tests_of_conj conjuncts_of_conj (from_conj within_pred) (x ∷ xs) h k in
    record {
      found = none_kept (fs ++ joined (map tests_of_conj (x ∷ xs))) ∙ ap (map (found_at false)) all.tests
          ∙ sym (one_found (conjunct (pred.Bracket c)) [] (ts ++ joined (map (from_conj within_pred) (x ∷ xs))) (group_test c)
          (within_roll false (pred.Bracket c) ∙ fold_group within_pred (λ c. c.first ++ joined c.rest) (λ c. c.first ++ joined c.rest) (λ n. n.pred) c ∙ holds));
      tests = tests_kept false (fs ++ joined (map tests_of_conj (x ∷ xs))) ∙ all.tests;
    }

all_walked : (c : Cond) → Walked (tests_of c) (conjuncts c) (from_cond within_pred c)
unfolding tests_of tests_of_conj tests_of_neg tests_of_pred
all_walked = cond_induction
    (λ p. Walked (tests_of_pred p) (conjuncts_of_pred p) (from_pred within_pred p))
    (λ c. Walked (tests_of c) (conjuncts c) (from_cond within_pred c))
    (λ c. Walked (tests_of_conj c) (conjuncts_of_conj c) (from_conj within_pred c))
    (λ n. Walked (tests_of_neg n) (conjuncts_of_neg n) (from_neg within_pred n))
    (λ c h. walked_as _ (tests_of c) _ (conjuncts c) _ (from_cond within_pred c) (fold_group tests_at_pred tests_at_cond tests_at_conj tests_at_neg c) (group_apart c) (fold_group within_pred (λ c. c.first ++ joined c.rest) (λ c. c.first ++ joined c.rest) (λ n. n.pred) c) h)
    (λ left op right. leaf_walked _ (leaf_test (Pred-F.Compare left op right)) (compare_apart left op right) (compare_test left op right) (fold_compare within_pred (λ c. c.first ++ joined c.rest) (λ c. c.first ++ joined c.rest) (λ n. n.pred) left op right) (fold_compare tests_at_pred tests_at_cond tests_at_conj tests_at_neg left op right))
    (λ without value low high. leaf_walked _ [] (between_apart without value low high) (between_test without value low high) (fold_between within_pred (λ c. c.first ++ joined c.rest) (λ c. c.first ++ joined c.rest) (λ n. n.pred) without value low high) (fold_between tests_at_pred tests_at_cond tests_at_conj tests_at_neg without value low high))
    (λ without value list. leaf_walked _ (leaf_test (Pred-F.Among without value list)) (among_apart without value list) (among_test without value list) (fold_among within_pred (λ c. c.first ++ joined c.rest) (λ c. c.first ++ joined c.rest) (λ n. n.pred) without value list) (fold_among tests_at_pred tests_at_cond tests_at_conj tests_at_neg without value list))
    (λ without value. leaf_walked _ [] (null_apart without value) (null_test without value) (fold_null within_pred (λ c. c.first ++ joined c.rest) (λ c. c.first ++ joined c.rest) (λ n. n.pred) without value) (fold_null tests_at_pred tests_at_cond tests_at_conj tests_at_neg without value))
    (λ kind span args. leaf_walked _ (leaf_test (Pred-F.Area kind span args)) (area_apart kind span args) (area_test_of kind span args) (fold_area within_pred (λ c. c.first ++ joined c.rest) (λ c. c.first ++ joined c.rest) (λ n. n.pred) kind span args) (fold_area tests_at_pred tests_at_cond tests_at_conj tests_at_neg kind span args))
    (λ left right strict n. leaf_walked _ (leaf_test (Pred-F.Chord left right strict n)) (chord_apart left right strict n) (chord_test left right strict n) (fold_chord within_pred (λ c. c.first ++ joined c.rest) (λ c. c.first ++ joined c.rest) (λ n. n.pred) left right strict n) (fold_chord tests_at_pred tests_at_cond tests_at_conj tests_at_neg left right strict n))
    (λ x h. walked_as _ _ _ _ _ _ (fold-roll-Neg Founds Founds Founds Founds tests_at_pred tests_at_cond tests_at_conj tests_at_neg x) (neg_apart x) (from_conjunct within_pred x.not x.pred) (neg_walked x x.not refl h))
    (λ x h k. walked_as _ _ _ _ _ _ (fold-roll-Conj Founds Founds Founds Founds tests_at_pred tests_at_cond tests_at_conj tests_at_neg x) (conj_apart x) (fold-roll-Conj Tests Tests Tests Tests within_pred (λ c. c.first ++ joined c.rest) (λ c. c.first ++ joined c.rest) (λ n. n.pred) x)
    (layer_walked (tests_of_neg x.first) (conjuncts_of_neg x.first) (from_neg within_pred x.first) tests_of_neg conjuncts_of_neg (from_neg within_pred) x.rest h k))
    (λ x h k. walked_as _ _ _ _ _ _ (fold-roll-Cond Founds Founds Founds Founds tests_at_pred tests_at_cond tests_at_conj tests_at_neg x) (cond_apart x) (fold-roll-Cond Tests Tests Tests Tests within_pred (λ c. c.first ++ joined c.rest) (λ c. c.first ++ joined c.rest) (λ n. n.pred) x)
    (or_walked (roll-Cond x) (tests_of_conj x.first) (conjuncts_of_conj x.first) (from_conj within_pred x.first) x.rest (fold-roll-Cond Tests Tests Tests Tests within_pred (λ c. c.first ++ joined c.rest) (λ c. c.first ++ joined c.rest) (λ n. n.pred) x) h k))

-- a walk from the top meets the tests of the conjuncts
pub walked : (c : Cond) → kept_if true (tests_of c) ≡ flat_map found_in (conjuncts c)
walked c = kept_at_top (tests_of c) ∙ (all_walked c).found

-- ---- the tests at the top

none_top : {A : Type 0} (f : Test → List A) (ts : Tests) → flat_map (top_only f) (map (found_at false) ts) ≡ []
none_top f [] = refl
none_top f (t ∷ ts) = none_top f ts

all_top : {A : Type 0} (f : Test → List A) (ts : Tests) → flat_map (top_only f) (map (found_at true) ts) ≡ flat_map f ts
all_top f [] = refl
all_top f (t ∷ ts) = ap (λ x. f t ++ x) (all_top f ts)

one_top : {A : Type 0} (f : Test → List A) (ts inner : Tests) → flat_map (top_only f) (found_by ts inner) ≡ flat_map f ts
one_top f [] inner = none_top f inner
one_top f (t ∷ ts) inner = all_top f (t ∷ ts)

each_top : {A : Type 0} (f : Test → List A) (ns : List Neg) → flat_map (top_only f) (flat_map found_in ns) ≡ flat_map f (flat_map test_of ns)
unfolding found_in
each_top f [] = refl
each_top f (n ∷ ns) =
    flat_append (top_only f) (found_in n) (flat_map found_in ns)
    ∙ ap (λ t. t ++ flat_map (top_only f) (flat_map found_in ns)) (one_top f (test_of n) (within n))
    ∙ ap (λ t. flat_map f (test_of n) ++ t) (each_top f ns)
    ∙ sym (flat_append f (test_of n) (flat_map test_of ns))

-- what the tests at the top give is what the tests among the conjuncts give
pub tops_only : {A : Type 0} (f : Test → List A) (w : Option Cond) → flat_map (top_only f) (tests_in w) ≡ flat_map f (top_tests w)
tops_only f w = each_top f (where_conjuncts w)
