-- The area tests of a bound query are those of its conditions, in their order.
use Rattle.std.specs.Prelude.{option_to_list}
use Rattle.std.proofs.Common.{◌≡◌, ℕ, Bool, true, false, List, [], ◌∷◌, ◌++◌, map, Option, Some, None, refl, sym, ap, subst, ◌∙◌, append_assoc, if◌then◌else◌}
use Rattle.std.specs.Prelude.{not}
use Rattle.std.specs.List.{AllByRecursion as Each, flat_map}
use Rattle.std.proofs.lemmas.List.{append-nil}
use Rattle.sql_bound.specs.declared.area.AreaTest.{AreaTest}
use Rattle.sql_bound.specs.declared.cond.BoundAll.{BoundAll}
use Rattle.sql_bound.specs.declared.cond.BoundAny.{roll-BoundAny}
use Rattle.sql_bound.specs.declared.cond.BoundCond.{BoundCond}
use Rattle.sql_bound.specs.declared.cond.BoundPred.{BoundPred}
use Rattle.sql_bound.specs.declared.cond.BoundPred.TheVariants as bound
use Rattle.sql_tree.specs.declared.cond.Cmp.{Cmp}
use Rattle.sql_tree.specs.declared.cond.Cmp.TheVariants as cmp
use Rattle.sql_tree.specs.declared.cond.Cond.{Cond}
use Rattle.sql_tree.specs.declared.cond.IntList.{IntList}
use Rattle.sql_tree.specs.declared.cond.Cond.{roll-Cond}
use Rattle.sql_tree.specs.declared.cond.Conj.{Conj}
use Rattle.sql_tree.specs.declared.cond.Neg.{Neg, roll-Neg}
use Rattle.sql_tree.specs.declared.cond.Pred.{Pred}
use Rattle.sql_tree.specs.declared.cond.Pred.TheVariants as pred
use Rattle.sql_tree.specs.declared.cond.Pred.TheOpen.{Pred-F}
use Rattle.sql_tree.specs.declared.expr.Expr.{Expr}
use Rattle.sql_tree.specs.declared.query.Query.{Query}
use Rattle.value_rules.specs.Formulas.{Formula, Or, negated_if, any_from, formula_of, formula_of_pred, formula_of_all}
use Rattle.value_rules.proofs.Parts.{formula_bracket, formula_compare, formula_between, formula_among, formula_null, formula_area, formula_cond_roll, formula_any_roll}
use Rattle.bind_rules.specs.Areas.{area_test}
use Rattle.bind_rules.specs.Binding.{bound_query}
use Rattle.bind_rules.specs.Bounds.{object_columns, Meaning, expr_by}
use Rattle.bind_rules.specs.Conjuncts.{conjunct, conjuncts}
use Rattle.bind_rules.specs.Wholes.{area_pred, bracket, before, neg_by, any_by, all_there, bound_pred, bound_all, bound_conjunct, conds_in}
use Rattle.bind_rules.specs.Forms.{values_of}
use Rattle.bind_rules.specs.IdTests.{areas_by}
use Rattle.bind_rules.specs.Laws.{area_in, AreasAreConjuncts}
use Rattle.bind_rules.specs.Tops.{Test, Tests, Area, Chord, test_of, top_tests}
use Rattle.bind_rules.proofs.Faultless.{scope_of, binds}
use Rattle.bind_rules.proofs.Views.{View, Negated, Either, Compared, IsBetween, IsAmong, Null, InArea, OfChord, leaf_test, views, negated_test, group_test, compare_test, between_test, among_test, null_test, area_test_of, chord_test}
use Rattle.bind_rules.proofs.Wholes.{bound_group, bound_compare, bound_between, bound_among, bound_null, bound_area, bound_chord, bound_neg_roll, bound_cond_roll}
use Rattle.bind_rules.proofs.Each.{weaker, flat_same, flat_twice}

-- the areas of conditions
abbrev pub areas_in : List BoundCond → List AreaTest
areas_in = flat_map (λ c. area_in (formula_of c))

-- a predicate as a condition, where it has a place in one
abbrev plain : Option BoundPred → List BoundCond
plain w = option_to_list (neg_by false w)

-- ---- predicates

-- the area of a predicate as a condition
one_area : (x : BoundPred) → areas_in (plain (Some x)) ≡ area_in (formula_of_pred x)
one_area x = ap (λ f. area_in f ++ []) (formula_cond_roll (record { not = false; pred = x })) ∙ append-nil (area_in (formula_of_pred x))

negated_none : (n : Bool) (f : Formula) → area_in f ≡ [] → area_in (negated_if n f) ≡ []
negated_none true f h = refl
negated_none false f h = h

compare_none : (left right : Expr) (op : Cmp) → flat_map areas_by (leaf_test (Pred-F.Compare left op right)) ≡ []
compare_none left right cmp.Equal = refl
compare_none left right cmp.Differs = refl
compare_none left right cmp.Less = refl
compare_none left right cmp.AtMost = refl
compare_none left right cmp.More = refl
compare_none left right cmp.AtLeast = refl

among_none : (without : Bool) (value : Expr) (list : IntList) → flat_map areas_by (leaf_test (Pred-F.Among without value list)) ≡ []
among_none true value list = refl
among_none false value list = refl

area_same : (t : Option AreaTest) → option_to_list t ++ [] ≡ areas_in (plain (area_pred t))
area_same None = refl
area_same (Some t) = sym (one_area (bound.Area t) ∙ ap area_in (formula_area t))

no_area : (w : Option BoundPred) → areas_in (option_to_list (neg_by true w)) ≡ []
no_area None = refl
no_area (Some p) = ap (λ f. area_in f ++ []) (formula_cond_roll (record { not = true; pred = p }))

-- an OR of two parts or more is no area test
or_none : (f g : Formula) (hs : List Formula) → area_in (any_from (Or f g) hs) ≡ []
or_none f g [] = refl
or_none f g (h ∷ hs) = or_none (Or f g) h hs

or_plain : (c : Option BoundAll) (d : Option BoundAll) (ds : Option (List BoundAll)) → areas_in (plain (bracket (any_by c (before d ds)))) ≡ []
or_plain None d ds = refl
or_plain (Some c) None ds = refl
or_plain (Some c) (Some d) None = refl
or_plain (Some c) (Some d) (Some ds) =
    one_area (bound.Bracket (roll-BoundAny (record { first = c; rest = d ∷ ds })))
    ∙ ap area_in (formula_bracket (roll-BoundAny (record { first = c; rest = d ∷ ds })) ∙ formula_any_roll (record { first = c; rest = d ∷ ds }))
    ∙ or_none (formula_of_all c) (formula_of_all d) (map formula_of_all ds)

-- ---- conjuncts

-- the areas of a conjunct are those of the condition that it is bound to
abbrev Same : Meaning → Neg → Type 0
Same means n = flat_map areas_by (test_of n) ≡ areas_in (bound_conjunct means n)

same_as : (means : Meaning) (n : Neg) (b : Bool) (x : Pred) (w : Option BoundPred) (ts : Tests) → n ≡ roll-Neg (record { not = b; pred = x }) → bound_pred means x ≡ w → test_of (roll-Neg (record { not = b; pred = x })) ≡ ts → flat_map areas_by ts ≡ areas_in (option_to_list (neg_by b w)) → Same means n
same_as means n b x w ts is bound_as t h =
    ap (flat_map areas_by) (ap test_of is ∙ t) ∙ h
    ∙ ap areas_in (sym (ap (bound_conjunct means) is ∙ ap option_to_list (bound_neg_roll means (record { not = b; pred = x }) ∙ ap (neg_by b) bound_as)))

conjunct_same : (means : Meaning) (n : Neg) → View n → Same means n
conjunct_same means n (Negated x is) = same_as means n true x (bound_pred means x) [] is refl (negated_test x) (sym (no_area (bound_pred means x)))
conjunct_same means n (Either first second rest is) =
    same_as means n false _ _ [] is (bound_group means (roll-Cond (record { first = first; rest = second ∷ rest })) ∙ ap bracket (bound_cond_roll means (record { first = first; rest = second ∷ rest }))) (group_test _)
    (sym (or_plain (bound_all means first) (bound_all means second) (all_there (map (bound_all means) rest))))
conjunct_same means n (Compared left op right is) =
    same_as means n false _ _ (leaf_test (Pred-F.Compare left op right)) is (bound_compare means left op right) (compare_test left op right)
    (compare_none left right op ∙ sym (one_area (bound.Compare (expr_by means left) op (expr_by means right)) ∙ ap area_in (formula_compare (expr_by means left) op (expr_by means right))))
conjunct_same means n (IsBetween without value low high is) =
    same_as means n false _ _ [] is (bound_between means without value low high) (between_test without value low high)
    (sym (one_area (bound.Between without (expr_by means value) (expr_by means low) (expr_by means high)) ∙ ap area_in (formula_between without (expr_by means value) (expr_by means low) (expr_by means high)) ∙ negated_none without _ refl))
conjunct_same means n (IsAmong without value list is) =
    same_as means n false _ _ (leaf_test (Pred-F.Among without value list)) is (bound_among means without value list) (among_test without value list)
    (among_none without value list ∙ sym (one_area (bound.Among without (expr_by means value) (values_of list)) ∙ ap area_in (formula_among without (expr_by means value) (values_of list)) ∙ negated_none without _ refl))
conjunct_same means n (Null without value is) =
    same_as means n false _ _ [] is (bound_null means without value) (null_test without value)
    (sym (one_area (bound.IsNull without (expr_by means value)) ∙ ap area_in (formula_null without (expr_by means value)) ∙ negated_none without _ refl))
conjunct_same means n (InArea kind span args is) =
    same_as means n false _ _ (Area kind span args ∷ []) is (bound_area means kind span args) (area_test_of kind span args) (area_same (area_test kind (values_of args)))
conjunct_same means n (OfChord left right strict m is) =
    same_as means n false _ _ (Chord left right strict m ∷ []) is (bound_chord means left right strict m) (chord_test left right strict m) refl

-- ---- the law

where_same : (means : Meaning) (c : Option Cond) → flat_map areas_by (top_tests c) ≡ areas_in (conds_in means c)
where_same means None = refl
where_same means (Some c) =
    flat_twice areas_by test_of (conjuncts c)
    ∙ flat_same (λ n. flat_map areas_by (test_of n)) (λ n. areas_in (bound_conjunct means n)) (conjuncts c) (weaker View (Same means) (conjunct_same means) (conjuncts c) (views c))
    ∙ sym (flat_twice (λ c. area_in (formula_of c)) (bound_conjunct means) (conjuncts c))

query_areas : (names : List (List ℕ)) (q : Query) → (bound_query (scope_of names q) q).areas ≡ areas_in (bound_query (scope_of names q) q).conds
unfolding bound_query
query_areas names q = where_same (object_columns names q) q.cond

pub areas_are_conjuncts : AreasAreConjuncts
areas_are_conjuncts names q b h =
    let two = binds names q b h in subst (λ x. x.areas ≡ areas_in x.conds) two.1 (query_areas names q)
