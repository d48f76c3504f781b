-- The id tests of a bound query are those of its conditions, in their order.
use Rattle.std.specs.Prelude.{option_to_list}
use Rattle.std.proofs.Common.{◌≡◌, ℕ, ℤ, Bool, true, false, List, [], ◌∷◌, ◌++◌, map, Option, Some, None, refl, sym, ap, subst, ◌∙◌, append-nil, if◌then◌else◌}
use Rattle.std.specs.List.{AllByRecursion as Each, flat_map}
use Rattle.std.specs.Option.{option_map}
use Rattle.sql_bound.specs.declared.area.AreaTest.{AreaTest}
use Rattle.sql_bound.specs.declared.cond.BoundAll.{BoundAll}
use Rattle.sql_bound.specs.declared.cond.BoundAny.{BoundAny}
use Rattle.sql_bound.specs.declared.cond.BoundCond.{BoundCond, roll-BoundCond, out-BoundCond}
use Rattle.sql_bound.specs.declared.cond.BoundPred.{BoundPred, out-BoundPred}
use Rattle.sql_bound.specs.declared.cond.BoundPred.TheOpen.{BoundPred-F}
use Rattle.sql_bound.specs.declared.cond.BoundPred.TheVariants as bound
use Rattle.sql_bound.specs.declared.cond.BoundPred.TheViews.{out-roll-BoundCond, out-roll-BoundPred}
use Rattle.sql_bound.specs.declared.expr.BoundAtom.{BoundAtom}
use Rattle.sql_bound.specs.declared.expr.BoundAtom.TheFolds.{fold-BoundAtom, fold-BoundFactor, fold-BoundProd, fold-BoundSigned, fold-roll-BoundAtom, fold-roll-BoundExpr, fold-roll-BoundFactor, fold-roll-BoundProd}
use Rattle.sql_bound.specs.declared.expr.BoundAtom.TheOpen.{BoundAtom-F}
use Rattle.sql_bound.specs.declared.expr.BoundAtom.TheVariants as batom
use Rattle.sql_bound.specs.declared.expr.BoundCol.{BoundCol}
use Rattle.sql_bound.specs.declared.expr.BoundExpr.{BoundExpr}
use Rattle.sql_bound.specs.declared.expr.BoundFactor.{BoundFactor}
use Rattle.sql_bound.specs.declared.expr.BoundProd.{BoundProd}
use Rattle.sql_bound.specs.declared.expr.BoundSigned.{BoundSigned}
use Rattle.sql_tree.specs.declared.cond.Cmp.{Cmp}
use Rattle.sql_tree.specs.declared.cond.Cmp.TheVariants as cmp
use Rattle.sql_tree.specs.declared.cond.Cond.{roll-Cond}
use Rattle.sql_tree.specs.declared.cond.IntList.{IntList}
use Rattle.sql_tree.specs.declared.cond.Neg.{Neg, roll-Neg}
use Rattle.sql_tree.specs.declared.cond.Pred.{Pred}
use Rattle.sql_tree.specs.declared.cond.Pred.TheOpen.{Pred-F}
use Rattle.sql_tree.specs.declared.expr.Atom.{Atom}
use Rattle.sql_tree.specs.declared.expr.Atom.TheFolds.{fold-Atom, fold-Factor, fold-Prod, fold-Signed, fold-roll-Factor, fold-roll-Prod, fold-roll-Expr}
use Rattle.sql_tree.specs.declared.expr.Expr.{Expr}
use Rattle.sql_tree.specs.declared.expr.Factor.{Factor}
use Rattle.sql_tree.specs.declared.expr.Prod.{Prod}
use Rattle.sql_tree.specs.declared.expr.Signed.{Signed}
use Rattle.sql_tree.specs.declared.query.Query.{Query}
use Rattle.sql_tree.specs.declared.cond.Cond.{Cond}
use Rattle.bind_rules.specs.Areas.{area_test}
use Rattle.bind_rules.specs.Binding.{bound_query}
use Rattle.bind_rules.specs.Bounds.{object_columns, Meaning, atom_by, bound_expr_step, bound_factor_step, bound_prod_step, bound_signed_step, expr_by}
use Rattle.bind_rules.specs.Conjuncts.{conjuncts}
use Rattle.bind_rules.specs.Forms.{values_of}
use Rattle.bind_rules.specs.IdLists.{OneBound, OneCol, OneInt, Single, single_first, single_at_atom, single_at_factor, single_of, is_id, ints_in, id_lists_at, id_lists}
use Rattle.bind_rules.specs.IdTests.{first_id, Lone, LoneCol, LoneInt, Alone, first_alone, lone_at_atom, lone_at_factor, lone_of, is_lone_column, int_of, ids_if, ids_by}
use Rattle.bind_rules.specs.Laws.{IdsAreConjuncts}
use Rattle.bind_rules.specs.Tops.{Tests, Area, Chord, Equals, Listed, test_of, top_tests}
use Rattle.bind_rules.specs.Wholes.{area_pred, bracket, neg_by, bound_pred, bound_any, bound_conjunct, conds_in}
use Rattle.bind_rules.proofs.Each.{weaker, flat_same, flat_twice}
use Rattle.bind_rules.proofs.Exprs.{atom_in, factor_in, prod_in, signed_in}
use Rattle.bind_rules.proofs.Faultless.{scope_of, binds}
use Rattle.bind_rules.proofs.Folds.{fold_int, fold_col, fold_bracket}
use Rattle.bind_rules.proofs.Inductions.{expr_induction}
use Rattle.bind_rules.proofs.Views.{View, Negated, Either, Compared, IsBetween, IsAmong, Null, InArea, OfChord, leaf_test, views, negated_test, group_test, compare_test, between_test, among_test, null_test, area_test_of, chord_test}
use Rattle.bind_rules.proofs.Wholes.{bound_group, bound_compare, bound_between, bound_among, bound_null, bound_area, bound_chord, bound_neg_roll}

-- ---- a bound expression is one column or one int where the written one is

-- a written column or int, bound
abbrev one_in : Meaning → Lone → OneBound
one_in means (LoneCol c) = OneCol (means c)
one_in means (LoneInt n) = OneInt n

-- the same, where there is one
abbrev single_in : Meaning → Alone → Single
single_in means None = None
single_in means (Some x) = Some (one_in means x)

abbrev lone_atom : Atom → Alone
lone_atom = fold-Atom Alone Alone Alone Alone Alone lone_at_atom (λ e. first_alone e.first e.rest) lone_at_factor (λ p. first_alone p.first p.rest) (λ s. s.prod)

abbrev lone_factor : Factor → Alone
lone_factor = fold-Factor Alone Alone Alone Alone Alone lone_at_atom (λ e. first_alone e.first e.rest) lone_at_factor (λ p. first_alone p.first p.rest) (λ s. s.prod)

abbrev lone_prod : Prod → Alone
lone_prod = fold-Prod Alone Alone Alone Alone Alone lone_at_atom (λ e. first_alone e.first e.rest) lone_at_factor (λ p. first_alone p.first p.rest) (λ s. s.prod)

abbrev lone_signed : Signed → Alone
lone_signed = fold-Signed Alone Alone Alone Alone Alone lone_at_atom (λ e. first_alone e.first e.rest) lone_at_factor (λ p. first_alone p.first p.rest) (λ s. s.prod)

abbrev single_atom : BoundAtom → Single
single_atom = fold-BoundAtom Single Single Single Single Single single_at_atom (λ e. single_first e.first e.rest) single_at_factor (λ p. single_first p.first p.rest) (λ s. s.prod)

abbrev single_factor : BoundFactor → Single
single_factor = fold-BoundFactor Single Single Single Single Single single_at_atom (λ e. single_first e.first e.rest) single_at_factor (λ p. single_first p.first p.rest) (λ s. s.prod)

abbrev single_prod : BoundProd → Single
single_prod = fold-BoundProd Single Single Single Single Single single_at_atom (λ e. single_first e.first e.rest) single_at_factor (λ p. single_first p.first p.rest) (λ s. s.prod)

abbrev single_signed : BoundSigned → Single
single_signed = fold-BoundSigned Single Single Single Single Single single_at_atom (λ e. single_first e.first e.rest) single_at_factor (λ p. single_first p.first p.rest) (λ s. s.prod)

by_minus : (means : Meaning) (m : Bool) (x : Single) (l : Alone) → x ≡ single_in means l → (if m then None else x) ≡ single_in means (if m then None else l)
by_minus means true x l h = refl
by_minus means false x l h = h

by_rest : {A B : Type 0} (means : Meaning) (x : Single) (l : Alone) (f : A → B) {C D : Type 0} (g : B → C) (k : A → D) (xs : List A) → x ≡ single_in means l → single_first x (map g (map f xs)) ≡ single_in means (first_alone l (map k xs))
by_rest means x l f g k [] h = h
by_rest means x l f g k (y ∷ ys) h = refl

single_bound : (means : Meaning) (e : Expr) → single_of (expr_by means e) ≡ single_in means (lone_of e)
unfolding lone_of expr_by single_of
single_bound means = expr_induction
    (λ a. single_atom (atom_in means a) ≡ single_in means (lone_atom a))
    (λ e. single_of (expr_by means e) ≡ single_in means (lone_of e))
    (λ f. single_factor (factor_in means f) ≡ single_in means (lone_factor f))
    (λ p. single_prod (prod_in means p) ≡ single_in means (lone_prod p))
    (λ g. Unit {0})
    (λ n. ap single_atom (fold_int (atom_by means) bound_expr_step bound_factor_step bound_prod_step bound_signed_step n ∙ sym (batom.rolls-Int n))
    ∙ fold-roll-BoundAtom Single Single Single Single Single single_at_atom (λ e. single_first e.first e.rest) single_at_factor (λ p. single_first p.first p.rest) (λ s. s.prod) (BoundAtom-F.Int n)
    ∙ ap (single_in means) (sym (fold_int lone_at_atom (λ e. first_alone e.first e.rest) lone_at_factor (λ p. first_alone p.first p.rest) (λ s. s.prod) n)))
    (λ c. ap single_atom (fold_col (atom_by means) bound_expr_step bound_factor_step bound_prod_step bound_signed_step c ∙ sym (batom.rolls-Col (means c)))
    ∙ fold-roll-BoundAtom Single Single Single Single Single single_at_atom (λ e. single_first e.first e.rest) single_at_factor (λ p. single_first p.first p.rest) (λ s. s.prod) (BoundAtom-F.Col (means c))
    ∙ ap (single_in means) (sym (fold_col lone_at_atom (λ e. first_alone e.first e.rest) lone_at_factor (λ p. first_alone p.first p.rest) (λ s. s.prod) c)))
    (λ e h. ap single_atom (fold_bracket (atom_by means) bound_expr_step bound_factor_step bound_prod_step bound_signed_step e ∙ sym (batom.rolls-Bracket (expr_by means e)))
    ∙ fold-roll-BoundAtom Single Single Single Single Single single_at_atom (λ e. single_first e.first e.rest) single_at_factor (λ p. single_first p.first p.rest) (λ s. s.prod) (BoundAtom-F.Bracket (expr_by means e))
    ∙ ap (single_in means) (sym (fold_bracket lone_at_atom (λ e. first_alone e.first e.rest) lone_at_factor (λ p. first_alone p.first p.rest) (λ s. s.prod) e)))
    (λ x h. ap single_factor (fold-roll-Factor BoundAtom BoundExpr BoundFactor BoundProd BoundSigned (atom_by means) bound_expr_step bound_factor_step bound_prod_step bound_signed_step x)
    ∙ fold-roll-BoundFactor Single Single Single Single Single single_at_atom (λ e. single_first e.first e.rest) single_at_factor (λ p. single_first p.first p.rest) (λ s. s.prod) (record { minus = x.minus; atom = atom_in means x.atom })
    ∙ by_minus means x.minus (single_atom (atom_in means x.atom)) (lone_atom x.atom) h
    ∙ ap (single_in means) (sym (fold-roll-Factor Alone Alone Alone Alone Alone lone_at_atom (λ e. first_alone e.first e.rest) lone_at_factor (λ p. first_alone p.first p.rest) (λ s. s.prod) x)))
    (λ x h k. ap single_prod (fold-roll-Prod BoundAtom BoundExpr BoundFactor BoundProd BoundSigned (atom_by means) bound_expr_step bound_factor_step bound_prod_step bound_signed_step x)
    ∙ fold-roll-BoundProd Single Single Single Single Single single_at_atom (λ e. single_first e.first e.rest) single_at_factor (λ p. single_first p.first p.rest) (λ s. s.prod) (record { first = factor_in means x.first; rest = map (factor_in means) x.rest })
    ∙ by_rest means (single_factor (factor_in means x.first)) (lone_factor x.first) (factor_in means) single_factor lone_factor x.rest h
    ∙ ap (single_in means) (sym (fold-roll-Prod Alone Alone Alone Alone Alone lone_at_atom (λ e. first_alone e.first e.rest) lone_at_factor (λ p. first_alone p.first p.rest) (λ s. s.prod) x)))
    (λ x h. tt)
    (λ x h k. ap single_of (fold-roll-Expr BoundAtom BoundExpr BoundFactor BoundProd BoundSigned (atom_by means) bound_expr_step bound_factor_step bound_prod_step bound_signed_step x)
    ∙ fold-roll-BoundExpr Single Single Single Single Single single_at_atom (λ e. single_first e.first e.rest) single_at_factor (λ p. single_first p.first p.rest) (λ s. s.prod) (record { first = prod_in means x.first; rest = map (signed_in means) x.rest })
    ∙ by_rest means (single_prod (prod_in means x.first)) (lone_prod x.first) (signed_in means) single_signed lone_signed x.rest h
    ∙ ap (single_in means) (sym (fold-roll-Expr Alone Alone Alone Alone Alone lone_at_atom (λ e. first_alone e.first e.rest) lone_at_factor (λ p. first_alone p.first p.rest) (λ s. s.prod) x)))

id_same : (means : Meaning) (l : Alone) → is_id (single_in means l) ≡ is_lone_column (first_id means) l
id_same means None = refl
id_same means (Some (LoneCol c)) = refl
id_same means (Some (LoneInt n)) = refl

ints_same : (means : Meaning) (l : Alone) → ints_in (single_in means l) ≡ int_of l
ints_same means None = refl
ints_same means (Some (LoneCol c)) = refl
ints_same means (Some (LoneInt n)) = refl

is_id_bound : (means : Meaning) (e : Expr) → is_id (single_of (expr_by means e)) ≡ is_lone_column (first_id means) (lone_of e)
is_id_bound means e = ap is_id (single_bound means e) ∙ id_same means (lone_of e)

ints_bound : (means : Meaning) (e : Expr) → ints_in (single_of (expr_by means e)) ≡ int_of (lone_of e)
ints_bound means e = ap ints_in (single_bound means e) ∙ ints_same means (lone_of e)

-- ---- conjuncts

-- the layer of a bound predicate
abbrev Shown : Type 0
Shown = BoundPred-F BoundPred BoundAll BoundAny BoundCond

-- the ids that it tests for
abbrev shown_ids : Bool → Shown → List (List ℤ)
shown_ids = id_lists_at

-- the ids of conditions
abbrev ids_in : List BoundCond → List (List ℤ)
ids_in = flat_map id_lists

one_cond : (b : Bool) (p : BoundPred) (x : Shown) → out-BoundPred p ≡ x → ids_in (roll-BoundCond (record { not = b; pred = p }) ∷ []) ≡ id_lists_at b x
one_cond b p x is =
    append-nil (id_lists (roll-BoundCond (record { not = b; pred = p })))
    ∙ ap (λ c. id_lists_at c.not (out-BoundPred c.pred)) (out-roll-BoundCond (record { not = b; pred = p })) ∙ ap (id_lists_at b) is

-- NOT leaves no id test
negated_none : (x : Shown) → id_lists_at true x ≡ []
negated_none (BoundPred-F.Bracket c) = refl
negated_none (BoundPred-F.Compare left op right) = refl
negated_none (BoundPred-F.Between without value low high) = refl
negated_none (BoundPred-F.Among without value list) = refl
negated_none (BoundPred-F.IsNull without value) = refl
negated_none (BoundPred-F.Area test) = refl

no_ids : (w : Option BoundPred) → ids_in (option_to_list (neg_by true w)) ≡ []
no_ids None = refl
no_ids (Some p) = one_cond true p (out-BoundPred p) refl ∙ negated_none (out-BoundPred p)

group_none : (w : Option BoundAny) → ids_in (option_to_list (neg_by false (bracket w))) ≡ []
group_none None = refl
group_none (Some c) = one_cond false (bound.Bracket c) (BoundPred-F.Bracket c) (ap out-BoundPred (sym (bound.rolls-Bracket c)) ∙ out-roll-BoundPred (BoundPred-F.Bracket c))

area_none : (t : Option AreaTest) → ids_in (option_to_list (neg_by false (area_pred t))) ≡ []
area_none None = refl
area_none (Some t) = one_cond false (bound.Area t) (BoundPred-F.Area t) (ap out-BoundPred (sym (bound.rolls-Area t)) ∙ out-roll-BoundPred (BoundPred-F.Area t))

compare_shown : (left : BoundExpr) (op : Cmp) (right : BoundExpr) → ids_in (roll-BoundCond (record { not = false; pred = bound.Compare left op right }) ∷ []) ≡ shown_ids false (BoundPred-F.Compare left op right)
compare_shown left op right = one_cond false (bound.Compare left op right) (BoundPred-F.Compare left op right) (ap out-BoundPred (sym (bound.rolls-Compare left op right)) ∙ out-roll-BoundPred (BoundPred-F.Compare left op right))

among_shown : (without : Bool) (value : BoundExpr) (list : List ℤ) → ids_in (roll-BoundCond (record { not = false; pred = bound.Among without value list }) ∷ []) ≡ shown_ids false (BoundPred-F.Among without value list)
among_shown without value list = one_cond false (bound.Among without value list) (BoundPred-F.Among without value list) (ap out-BoundPred (sym (bound.rolls-Among without value list)) ∙ out-roll-BoundPred (BoundPred-F.Among without value list))

compare_ids : (means : Meaning) (left : Expr) (op : Cmp) (right : Expr) → flat_map (ids_by (first_id means)) (leaf_test (Pred-F.Compare left op right)) ≡ ids_in (roll-BoundCond (record { not = false; pred = bound.Compare (expr_by means left) op (expr_by means right) }) ∷ [])
compare_ids means left cmp.Equal right =
    append-nil (ids_by (first_id means) (Equals left right))
    ∙ ap (λ b. ids_if b (int_of (lone_of right))) (sym (is_id_bound means left))
    ∙ ap (ids_if (is_id (single_of (expr_by means left)))) (sym (ints_bound means right))
    ∙ sym (compare_shown (expr_by means left) cmp.Equal (expr_by means right))
compare_ids means left cmp.Differs right = sym (compare_shown (expr_by means left) cmp.Differs (expr_by means right))
compare_ids means left cmp.Less right = sym (compare_shown (expr_by means left) cmp.Less (expr_by means right))
compare_ids means left cmp.AtMost right = sym (compare_shown (expr_by means left) cmp.AtMost (expr_by means right))
compare_ids means left cmp.More right = sym (compare_shown (expr_by means left) cmp.More (expr_by means right))
compare_ids means left cmp.AtLeast right = sym (compare_shown (expr_by means left) cmp.AtLeast (expr_by means right))

among_ids : (means : Meaning) (without : Bool) (value : Expr) (list : IntList) → flat_map (ids_by (first_id means)) (leaf_test (Pred-F.Among without value list)) ≡ ids_in (roll-BoundCond (record { not = false; pred = bound.Among without (expr_by means value) (values_of list) }) ∷ [])
among_ids means true value list = sym (among_shown true (expr_by means value) (values_of list))
among_ids means false value list =
    append-nil (ids_by (first_id means) (Listed value list))
    ∙ ap (λ b. ids_if b (values_of list)) (sym (is_id_bound means value))
    ∙ sym (among_shown false (expr_by means value) (values_of list))

between_ids : (without : Bool) (value low high : BoundExpr) → ids_in (roll-BoundCond (record { not = false; pred = bound.Between without value low high }) ∷ []) ≡ []
between_ids without value low high = one_cond false (bound.Between without value low high) (BoundPred-F.Between without value low high) (ap out-BoundPred (sym (bound.rolls-Between without value low high)) ∙ out-roll-BoundPred (BoundPred-F.Between without value low high))

null_ids : (without : Bool) (value : BoundExpr) → ids_in (roll-BoundCond (record { not = false; pred = bound.IsNull without value }) ∷ []) ≡ []
null_ids without value = one_cond false (bound.IsNull without value) (BoundPred-F.IsNull without value) (ap out-BoundPred (sym (bound.rolls-IsNull without value)) ∙ out-roll-BoundPred (BoundPred-F.IsNull without value))

-- the ids of a conjunct are those of the condition that it is bound to
abbrev Same : Meaning → Neg → Type 0
Same means n = flat_map (ids_by (first_id means)) (test_of n) ≡ ids_in (bound_conjunct means n)

same_as : (means : Meaning) (n : Neg) (b : Bool) (x : Pred) (w : Option BoundPred) (ts : Tests) → n ≡ roll-Neg (record { not = b; pred = x }) → bound_pred means x ≡ w → test_of (roll-Neg (record { not = b; pred = x })) ≡ ts → flat_map (ids_by (first_id means)) ts ≡ ids_in (option_to_list (neg_by b w)) → Same means n
same_as means n b x w ts is bound_as t h =
    ap (flat_map (ids_by (first_id means))) (ap test_of is ∙ t) ∙ h
    ∙ ap ids_in (sym (ap (bound_conjunct means) is ∙ ap option_to_list (bound_neg_roll means (record { not = b; pred = x }) ∙ ap (neg_by b) bound_as)))

conjunct_same : (means : Meaning) (n : Neg) → View n → Same means n
conjunct_same means n (Negated x is) = same_as means n true x (bound_pred means x) [] is refl (negated_test x) (sym (no_ids (bound_pred means x)))
conjunct_same means n (Either first second rest is) =
    same_as means n false _ _ [] is (bound_group means (roll-Cond (record { first = first; rest = second ∷ rest }))) (group_test _)
    (sym (group_none (bound_any means (roll-Cond (record { first = first; rest = second ∷ rest })))))
conjunct_same means n (Compared left op right is) =
    same_as means n false _ _ (leaf_test (Pred-F.Compare left op right)) is (bound_compare means left op right) (compare_test left op right) (compare_ids means left op right)
conjunct_same means n (IsBetween without value low high is) =
    same_as means n false _ _ [] is (bound_between means without value low high) (between_test without value low high) (sym (between_ids without (expr_by means value) (expr_by means low) (expr_by means high)))
conjunct_same means n (IsAmong without value list is) =
    same_as means n false _ _ (leaf_test (Pred-F.Among without value list)) is (bound_among means without value list) (among_test without value list) (among_ids means without value list)
conjunct_same means n (Null without value is) =
    same_as means n false _ _ [] is (bound_null means without value) (null_test without value) (sym (null_ids without (expr_by means value)))
conjunct_same means n (InArea kind span args is) =
    same_as means n false _ _ (Area kind span args ∷ []) is (bound_area means kind span args) (area_test_of kind span args) (sym (area_none (area_test kind (values_of args))))
conjunct_same means n (OfChord left right strict m is) =
    same_as means n false _ _ (Chord left right strict m ∷ []) is (bound_chord means left right strict m) (chord_test left right strict m) refl

-- ---- the law

where_same : (means : Meaning) (c : Option Cond) → flat_map (ids_by (first_id means)) (top_tests c) ≡ ids_in (conds_in means c)
where_same means None = refl
where_same means (Some c) =
    flat_twice (ids_by (first_id means)) test_of (conjuncts c)
    ∙ flat_same (λ n. flat_map (ids_by (first_id means)) (test_of n)) (λ n. ids_in (bound_conjunct means n)) (conjuncts c) (weaker View (Same means) (conjunct_same means) (conjuncts c) (views c))
    ∙ sym (flat_twice id_lists (bound_conjunct means) (conjuncts c))

query_ids : (names : List (List ℕ)) (q : Query) → (bound_query (scope_of names q) q).ids ≡ ids_in (bound_query (scope_of names q) q).conds
unfolding bound_query
query_ids names q = where_same (object_columns names q) q.cond

pub ids_are_conjuncts : IdsAreConjuncts
ids_are_conjuncts names q b h =
    let two = binds names q b h in subst (λ x. x.ids ≡ ids_in x.conds) two.1 (query_ids names q)
