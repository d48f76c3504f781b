-- The chunk tests of a bound query are among its conditions.
use Rattle.std.specs.Prelude.{option_to_list}
use Rattle.std.proofs.Common.{◌≡◌, ℕ, ℤ, Bool, true, false, List, [], ◌∷◌, ◌++◌, map, Option, Some, None, refl, sym, subst, ap, ◌∙◌, arith}
use Rattle.std.specs.Prelude.{◌&&◌, ◌||◌, not, nat_eq}
use Rattle.std.specs.List.{AllByRecursion as Each, flat_map, list_all}
use Rattle.std.specs.Ordering.{int_eq}
use Rattle.std.proofs.lemmas.Bool.Decides.{Decides-int_eq}
use Rattle.sql_bound.specs.declared.area.AreaTest.{AreaTest}
use Rattle.sql_bound.specs.declared.cond.BoundAny.{BoundAny}
use Rattle.sql_bound.specs.declared.cond.BoundCond.{BoundCond, roll-BoundCond}
use Rattle.sql_bound.specs.declared.cond.BoundPred.{BoundPred}
use Rattle.sql_bound.specs.declared.cond.BoundPred.TheVariants as bound
use Rattle.sql_bound.specs.declared.expr.BoundCol.{BoundCol}
use Rattle.sql_tree.specs.declared.cond.Cmp.{Cmp}
use Rattle.sql_tree.specs.declared.cond.Cmp.TheVariants as cmp
use Rattle.sql_tree.specs.declared.cond.Cond.{Cond}
use Rattle.sql_tree.specs.declared.cond.IntList.{IntList}
use Rattle.sql_tree.specs.declared.cond.Conj.{Conj}
use Rattle.sql_tree.specs.declared.cond.Neg.{Neg}
use Rattle.sql_tree.specs.declared.cond.Pred.{Pred}
use Rattle.sql_tree.specs.declared.cond.Pred.TheOpen.{Pred-F}
use Rattle.sql_tree.specs.declared.expr.Expr.{Expr}
use Rattle.value_rules.specs.Areas.{area_holds}
use Rattle.value_rules.specs.Formulas.{formula_of_pred}
use Rattle.value_rules.specs.Terms.{Term, term_of}
use Rattle.value_rules.specs.Truth.{compared, among, is_one_of, truth_at, is_true, holds}
use Rattle.value_rules.specs.Values.{Pick, cell_of, value_at}
use Rattle.value_rules.proofs.Parts.{formula_compare, formula_among, formula_area, formula_cond_roll}
use Rattle.bind_rules.specs.Areas.{area_test}
use Rattle.bind_rules.specs.Bounds.{Meaning, expr_by}
use Rattle.bind_rules.specs.Conjuncts.{conjunct, conjuncts}
use Rattle.bind_rules.specs.Wholes.{area_pred, neg_by, bound_pred, bound_conjunct}
use Rattle.bind_rules.specs.Forms.{int_value, values_of}
use Rattle.bind_rules.specs.IdTests.{first_id, LoneCol, LoneInt, Alone, lone_of, is_lone_column, int_of, ids_if, ids_by, areas_by}
use Rattle.bind_rules.specs.Tops.{Test, Tests, Area, Chord, test_of}
use Rattle.bind_rules.proofs.Each.{by_two, in_parts, of_parts}
use Rattle.bind_rules.proofs.Lone.{Means, lone_means}
use Rattle.bind_rules.proofs.Views.{View, Negated, Either, Compared, IsBetween, IsAmong, Null, InArea, OfChord, leaf_test, views, negated_test, group_test, compare_test, between_test, among_test, null_test, area_test_of, chord_test}
use Rattle.bind_rules.proofs.Wholes.{bound_compare, bound_among, bound_area, bound_chord, bound_neg_roll}

-- the condition holds on the row or pair
abbrev pub Meets : Pick → BoundCond → Type 0
Meets p c = holds c p ≡ true

-- the chunk tests of a test pass on the row or pair
abbrev pub TestPasses : Meaning → Pick → Test → Type 0
TestPasses means p t = (list_all (λ a. area_holds a p.first.at) (areas_by t) ≡ true) × (list_all (λ list. is_one_of list p.first.id) (ids_by (first_id means) t) ≡ true)

-- ---- id tests

equal_back : (a b : ℤ) → int_eq a b ≡ true → int_eq b a ≡ true
equal_back a b h = grind (arith, Decides-int_eq a b, Decides-int_eq b a, h)

or_true : (a b : Bool) → a ≡ true → (a || b) ≡ true
or_true a b h = rw h refl

-- the cell of a column that is the first table's id
id_cell : (p : Pick) (second : Bool) (col : ℕ) → (not second && nat_eq col 0) ≡ true → cell_of p (record { second = second; col = col }) ≡ Some p.first.id
id_cell p true col h = absurd cc
id_cell p false col h = let zero : col ≡ 0 = grind (arith, h) in rw zero refl

compared_id : (a b : Option ℤ) (n : ℤ) (id : ℤ) → a ≡ Some id → b ≡ Some n → is_true (compared cmp.Equal a b) ≡ true → int_eq id n ≡ true
compared_id a b n id p q h = rw (p, q) at h

-- an equation with the first id
equal_step : (means : Meaning) (p : Pick) (c : BoundCol) (n : ℤ) (b : Bool) → (not c.second && nat_eq c.col 0) ≡ b → is_true (compared cmp.Equal (cell_of p c) (Some n)) ≡ true → list_all (λ list. is_one_of list p.first.id) (ids_if b (n ∷ [])) ≡ true
equal_step means p c n false e h = refl
equal_step means p c n true e h =
    let same = compared_id (cell_of p c) (Some n) n p.first.id (id_cell p c.second c.col e) refl h in
    rw (equal_back p.first.id n same) refl

equals_pass : (means : Meaning) (p : Pick) (l r : Alone) (t u : Term) → Means means l t → Means means r u → is_true (compared cmp.Equal (value_at (cell_of p) t) (value_at (cell_of p) u)) ≡ true → list_all (λ list. is_one_of list p.first.id) (ids_if (is_lone_column (first_id means) l) (int_of r)) ≡ true
equals_pass means p None r t u m k h = refl
equals_pass means p (Some (LoneInt n)) r t u m k h = refl
equals_pass means p (Some (LoneCol c)) None t u m k h = no_ids (is_lone_column (first_id means) (Some (LoneCol c))) p
  where
    no_ids : (b : Bool) (p : Pick) → list_all (λ list. is_one_of list p.first.id) (ids_if b []) ≡ true
    no_ids true p = refl
    no_ids false p = refl
equals_pass means p (Some (LoneCol c)) (Some (LoneCol d)) t u m k h = no_ids (is_lone_column (first_id means) (Some (LoneCol c))) p
  where
    no_ids : (b : Bool) (p : Pick) → list_all (λ list. is_one_of list p.first.id) (ids_if b []) ≡ true
    no_ids true p = refl
    no_ids false p = refl
equals_pass means p (Some (LoneCol c)) (Some (LoneInt n)) t u m k h =
    equal_step means p (means c) n (is_lone_column (first_id means) (Some (LoneCol c))) refl
    (subst (λ x. is_true (compared cmp.Equal (value_at (cell_of p) x) (Some n)) ≡ true) m (subst (λ x. is_true (compared cmp.Equal (value_at (cell_of p) t) (value_at (cell_of p) x)) ≡ true) k h))

-- IN of the first id
listed_step : (p : Pick) (c : BoundCol) (first : ℤ) (rest : List ℤ) (b : Bool) → (not c.second && nat_eq c.col 0) ≡ b → is_true (among (cell_of p c) (first ∷ rest)) ≡ true → list_all (λ list. is_one_of list p.first.id) (ids_if b (first ∷ rest)) ≡ true
listed_step p c first rest false e h = refl
listed_step p c first rest true e h =
    let cell = id_cell p c.second c.col e in
    let same : is_one_of (first ∷ rest) p.first.id ≡ true = subst (λ v. is_true (among v (first ∷ rest)) ≡ true) cell h in
    rw same refl

listed_pass : (means : Meaning) (p : Pick) (l : Alone) (t : Term) (first : ℤ) (rest : List ℤ) → Means means l t → is_true (among (value_at (cell_of p) t) (first ∷ rest)) ≡ true → list_all (λ list. is_one_of list p.first.id) (ids_if (is_lone_column (first_id means) l) (first ∷ rest)) ≡ true
listed_pass means p None t first rest m h = refl
listed_pass means p (Some (LoneInt n)) t first rest m h = refl
listed_pass means p (Some (LoneCol c)) t first rest m h =
    listed_step p (means c) first rest (is_lone_column (first_id means) (Some (LoneCol c))) refl (subst (λ x. is_true (among (value_at (cell_of p) x) (first ∷ rest)) ≡ true) m h)

-- ---- what a predicate's own condition says

pred_meets : (p : Pick) (x : BoundPred) → Meets p (roll-BoundCond (record { not = false; pred = x })) → is_true (truth_at (cell_of p) p.first.at (formula_of_pred x)) ≡ true
pred_meets p x h = subst (λ f. is_true (truth_at (cell_of p) p.first.at f) ≡ true) (formula_cond_roll (record { not = false; pred = x })) h

compare_passes : (means : Meaning) (p : Pick) (left right : Expr) (op : Cmp) → Meets p (roll-BoundCond (record { not = false; pred = bound.Compare (expr_by means left) op (expr_by means right) })) → Each (TestPasses means p) (leaf_test (Pred-F.Compare left op right))
compare_passes means p left right cmp.Equal h =
    let k = subst (λ f. is_true (truth_at (cell_of p) p.first.at f) ≡ true) (formula_compare (expr_by means left) cmp.Equal (expr_by means right)) (pred_meets p (bound.Compare (expr_by means left) cmp.Equal (expr_by means right)) h) in
    ((refl, equals_pass means p (lone_of left) (lone_of right) (term_of (expr_by means left)) (term_of (expr_by means right)) (lone_means means left) (lone_means means right) k), tt)
compare_passes means p left right cmp.Differs h = tt
compare_passes means p left right cmp.Less h = tt
compare_passes means p left right cmp.AtMost h = tt
compare_passes means p left right cmp.More h = tt
compare_passes means p left right cmp.AtLeast h = tt

among_passes : (means : Meaning) (p : Pick) (without : Bool) (value : Expr) (list : IntList) → Meets p (roll-BoundCond (record { not = false; pred = bound.Among without (expr_by means value) (values_of list) })) → Each (TestPasses means p) (leaf_test (Pred-F.Among without value list))
among_passes means p true value list h = tt
among_passes means p false value list h =
    let k = subst (λ f. is_true (truth_at (cell_of p) p.first.at f) ≡ true) (formula_among false (expr_by means value) (values_of list)) (pred_meets p (bound.Among false (expr_by means value) (values_of list)) h) in
    ((refl, listed_pass means p (lone_of value) (term_of (expr_by means value)) (int_value list.first) (map int_value list.rest) (lone_means means value) k), tt)

area_passes : (means : Meaning) (p : Pick) (t : Option AreaTest) → Each (Meets p) (option_to_list (neg_by false (area_pred t))) → list_all (λ a. area_holds a p.first.at) (option_to_list t) ≡ true
area_passes means p None h = refl
area_passes means p (Some t) h =
    let k : area_holds t p.first.at ≡ true = subst (λ f. is_true (truth_at (cell_of p) p.first.at f) ≡ true) (formula_area t) (pred_meets p (bound.Area t) h.0) in
    rw k refl

-- ---- conjuncts

-- where the bound conjunct holds, the test that the conjunct is passes
abbrev Passes : Meaning → Pick → Neg → Type 0
Passes means p n = Each (Meets p) (bound_conjunct means n) → Each (TestPasses means p) (test_of n)

no_test : (means : Meaning) (p : Pick) (n : Neg) → test_of n ≡ [] → Passes means p n
no_test means p n is h = subst (Each (TestPasses means p)) (sym is) tt

passes_as : (means : Meaning) (p : Pick) (n : Neg) (x : Pred) (w : Option BoundPred) (ts : Tests) → n ≡ conjunct x → bound_pred means x ≡ w → test_of (conjunct x) ≡ ts → (Each (Meets p) (option_to_list (neg_by false w)) → Each (TestPasses means p) ts) → Passes means p n
passes_as means p n x w ts is b t f h =
    subst (Each (TestPasses means p)) (sym (ap test_of is ∙ t))
    (f (subst (Each (Meets p)) (ap (bound_conjunct means) is ∙ ap option_to_list (bound_neg_roll means (record { not = false; pred = x }) ∙ ap (neg_by false) b)) h))

conjunct_passes : (means : Meaning) (p : Pick) (n : Neg) → View n → Passes means p n
conjunct_passes means p n (Negated x is) = no_test means p n (ap test_of is ∙ negated_test x)
conjunct_passes means p n (Either first second rest is) = no_test means p n (ap test_of is ∙ group_test _)
conjunct_passes means p n (Compared left op right is) =
    passes_as means p n _ _ (leaf_test (Pred-F.Compare left op right)) is (bound_compare means left op right) (compare_test left op right) (λ h. compare_passes means p left right op h.0)
conjunct_passes means p n (IsBetween without value low high is) = no_test means p n (ap test_of is ∙ between_test without value low high)
conjunct_passes means p n (IsAmong without value list is) =
    passes_as means p n _ _ (leaf_test (Pred-F.Among without value list)) is (bound_among means without value list) (among_test without value list) (λ h. among_passes means p without value list h.0)
conjunct_passes means p n (Null without value is) = no_test means p n (ap test_of is ∙ null_test without value)
conjunct_passes means p n (InArea kind span args is) =
    passes_as means p n _ _ (Area kind span args ∷ []) is (bound_area means kind span args) (area_test_of kind span args) (λ h. ((area_passes means p (area_test kind (values_of args)) h, refl), tt))
conjunct_passes means p n (OfChord left right strict m is) =
    passes_as means p n _ _ (Chord left right strict m ∷ []) is (bound_chord means left right strict m) (chord_test left right strict m) (λ h. ((refl, refl), tt))

-- ---- the law

-- where the bound conjuncts of a condition hold, the tests among its conjuncts pass
pub tops_pass : (means : Meaning) (p : Pick) (c : Cond) → Each (Meets p) (flat_map (bound_conjunct means) (conjuncts c)) → Each (TestPasses means p) (flat_map test_of (conjuncts c))
tops_pass means p c h =
    of_parts (TestPasses means p) test_of (conjuncts c)
    (by_two View (λ n. Each (Meets p) (bound_conjunct means n)) (λ n. Each (TestPasses means p) (test_of n)) (conjunct_passes means p) (conjuncts c) (views c)
    (in_parts (Meets p) (bound_conjunct means) (conjuncts c) h))
