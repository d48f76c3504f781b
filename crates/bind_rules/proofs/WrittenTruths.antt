-- A WHERE is true exactly where each of its conjuncts is, and a conjunct says what the condition says that it is bound to.
use Rattle.std.proofs.Common.{◌≡◌, ℤ, Bool, true, false, List, [], ◌∷◌, ◌++◌, map, Option, Some, None, refl, sym, ap, ◌∙◌, subst, if◌then◌else◌}
use Rattle.std.specs.Prelude.{◌&&◌}
use Rattle.std.specs.List.{AllByRecursion as Each, flat_map, list_all}
use Rattle.std.specs.Option.{option_map}
use Rattle.sql_bound.specs.declared.area.AreaTest.{AreaTest}
use Rattle.sql_bound.specs.declared.cond.BoundAll.{BoundAll}
use Rattle.sql_bound.specs.declared.cond.BoundAny.{BoundAny}
use Rattle.sql_bound.specs.declared.cond.BoundCond.{BoundCond}
use Rattle.sql_bound.specs.declared.cond.BoundPred.{BoundPred}
use Rattle.sql_bound.specs.declared.cond.BoundPred.TheVariants as bound
use Rattle.sql_tree.specs.declared.cond.Cond.{Cond, roll-Cond}
use Rattle.sql_tree.specs.declared.cond.Conj.{Conj, roll-Conj}
use Rattle.sql_tree.specs.declared.cond.Neg.{Neg, roll-Neg}
use Rattle.sql_tree.specs.declared.cond.Pred.{Pred}
use Rattle.sql_tree.specs.declared.cond.Pred.TheFolds.{fold-Pred, fold-Conj, fold-roll-Cond, fold-roll-Conj, fold-roll-Neg}
use Rattle.sql_tree.specs.declared.cond.Pred.TheOpen.{Cond-F, Conj-F, Neg-F, Pred-F}
use Rattle.sql_tree.specs.declared.cond.Pred.TheVariants as pred
use Rattle.sql_tree.specs.declared.name.Name.{Name}
use Rattle.value_rules.specs.Areas.{area_holds}
use Rattle.value_rules.specs.Formulas.{Formula, And, Or, negated_if, all_from, any_from, formula_of, formula_of_pred, formula_of_all, formula_of_any}
use Rattle.value_rules.specs.Truth.{truth_and, truth_or, truth_at, truth_of, is_true}
use Rattle.value_rules.specs.Values.{Pick, cell_of}
use Rattle.value_rules.proofs.Parts.{formula_bracket, formula_compare, formula_between, formula_among, formula_null, formula_area, formula_cond_roll, formula_all_roll, formula_any_roll}
use Rattle.bind_rules.specs.Areas.{area_test}
use Rattle.bind_rules.specs.Bounds.{Meaning, expr_by}
use Rattle.bind_rules.specs.Conjuncts.{conjunct, conjuncts, conjuncts_of_conj, conjuncts_of_neg, conjuncts_of_pred, or_conjuncts, where_conjuncts}
use Rattle.bind_rules.specs.Forms.{values_of}
use Rattle.bind_rules.specs.Laws.{WhereIsItsConjuncts, BoundConjunctsSayTheSame}
use Rattle.bind_rules.specs.Truths.{not_if, chord_truth, truth_at_pred, truth_at_neg, and_from, or_from, truth_at_conj, truth_at_cond, written_truth, conjunct_truth, where_holds}
use Rattle.bind_rules.specs.Wholes.{area_pred, bracket, before, all_there, conj_by, any_by, neg_by, bound_pred, bound_any, bound_all, bound_cond, bound_conjunct}
use Rattle.bind_rules.proofs.Apart.{group_apart, compare_apart, between_apart, among_apart, null_apart, area_apart, chord_apart, neg_apart, conj_apart, cond_apart}
use Rattle.bind_rules.proofs.Each.{IfThere}
use Rattle.bind_rules.proofs.Folds.{fold_group, fold_compare, fold_between, fold_among, fold_null, fold_area, fold_chord}
use Rattle.bind_rules.proofs.Inductions.{cond_induction, neg_induction}
use Rattle.bind_rules.proofs.Wholes.{bound_group, bound_compare, bound_between, bound_among, bound_null, bound_area, bound_chord, bound_neg_roll, bound_conj_roll, bound_cond_roll}

abbrev pred_truth : Meaning → Pick → Pred → Option Bool
pred_truth means p = fold-Pred (Option Bool) (Option Bool) (Option Bool) (Option Bool) (truth_at_pred means p) truth_at_cond truth_at_conj truth_at_neg

abbrev conj_truth : Meaning → Pick → Conj → Option Bool
conj_truth means p = fold-Conj (Option Bool) (Option Bool) (Option Bool) (Option Bool) (truth_at_pred means p) truth_at_cond truth_at_conj truth_at_neg

-- ---- parts

neg_truth_roll : (means : Meaning) (p : Pick) (x : Neg-F Pred Cond Conj Neg) → conjunct_truth means p (roll-Neg x) ≡ not_if x.not (pred_truth means p x.pred)
unfolding conjunct_truth
neg_truth_roll means p x = fold-roll-Neg (Option Bool) (Option Bool) (Option Bool) (Option Bool) (truth_at_pred means p) truth_at_cond truth_at_conj truth_at_neg x

conj_truth_roll : (means : Meaning) (p : Pick) (x : Conj-F Pred Cond Conj Neg) → conj_truth means p (roll-Conj x) ≡ and_from (conjunct_truth means p x.first) (map (conjunct_truth means p) x.rest)
unfolding conjunct_truth
conj_truth_roll means p x = fold-roll-Conj (Option Bool) (Option Bool) (Option Bool) (Option Bool) (truth_at_pred means p) truth_at_cond truth_at_conj truth_at_neg x

cond_truth_roll : (means : Meaning) (p : Pick) (x : Cond-F Pred Cond Conj Neg) → written_truth means p (roll-Cond x) ≡ or_from (conj_truth means p x.first) (map (conj_truth means p) x.rest)
unfolding written_truth
cond_truth_roll means p x = fold-roll-Cond (Option Bool) (Option Bool) (Option Bool) (Option Bool) (truth_at_pred means p) truth_at_cond truth_at_conj truth_at_neg x

group_truth : (means : Meaning) (p : Pick) (c : Cond) → pred_truth means p (pred.Bracket c) ≡ written_truth means p c
unfolding written_truth
group_truth means p c = fold_group (truth_at_pred means p) truth_at_cond truth_at_conj truth_at_neg c

-- a conjunct that is a chord test says what that says
pub chord_conjunct : (means : Meaning) (p : Pick) (left right : Name) (strict : Bool) (n : ℤ) → conjunct_truth means p (conjunct (pred.Chord left right strict n)) ≡ chord_truth p strict n
chord_conjunct means p left right strict n =
    neg_truth_roll means p (record { not = false; pred = pred.Chord left right strict n })
    ∙ fold_chord (truth_at_pred means p) truth_at_cond truth_at_conj truth_at_neg left right strict n

-- ---- what is true of all

pub and_true : (b : Bool) → b ≡ (b && true)
and_true true = refl
and_true false = refl

and_assoc : (a b c : Bool) → ((a && b) && c) ≡ (a && (b && c))
and_assoc true b c = refl
and_assoc false b c = refl

both_true : (t u : Option Bool) → is_true (truth_and t u) ≡ (is_true t && is_true u)
both_true (Some false) u = refl
both_true (Some true) u = refl
both_true None (Some false) = refl
both_true None (Some true) = refl
both_true None None = refl

all_true : (t : Option Bool) (us : List (Option Bool)) → is_true (and_from t us) ≡ (is_true t && list_all is_true us)
all_true t [] = and_true (is_true t)
all_true t (u ∷ us) =
    all_true (truth_and t u) us ∙ ap (λ b. b && list_all is_true us) (both_true t u) ∙ and_assoc (is_true t) (is_true u) (list_all is_true us)

pub all_append : {X : Type 0} (q : X → Bool) (xs ys : List X) → list_all q (xs ++ ys) ≡ (list_all q xs && list_all q ys)
all_append q [] ys = refl
all_append q (x ∷ xs) ys = ap (λ b. q x && b) (all_append q xs ys) ∙ sym (and_assoc (q x) (list_all q xs) (list_all q ys))

-- ---- a condition is true where its conjuncts are

-- the conjunct is true
abbrev Q : Meaning → Pick → Neg → Bool
Q means p n = is_true (conjunct_truth means p n)

-- one conjunct
one_true : (means : Meaning) (p : Pick) (ns : List Neg) (n : Neg) → ns ≡ n ∷ [] → is_true (conjunct_truth means p n) ≡ list_all (Q means p) ns
one_true means p ns n is = and_true (Q means p n) ∙ ap (list_all (Q means p)) (sym is)

lone_true : (means : Meaning) (p : Pick) (x : Pred) → conjuncts_of_pred x ≡ conjunct x ∷ [] → is_true (pred_truth means p x) ≡ list_all (Q means p) (conjuncts_of_pred x)
lone_true means p x is = ap is_true (sym (neg_truth_roll means p (record { not = false; pred = x }))) ∙ one_true means p (conjuncts_of_pred x) (conjunct x) is

neg_true : (means : Meaning) (p : Pick) (x : Neg-F Pred Cond Conj Neg) (b : Bool) → x.not ≡ b → is_true (pred_truth means p x.pred) ≡ list_all (Q means p) (conjuncts_of_pred x.pred) → is_true (conjunct_truth means p (roll-Neg x)) ≡ list_all (Q means p) (conjuncts_of_neg (roll-Neg x))
neg_true means p x true is h = one_true means p (conjuncts_of_neg (roll-Neg x)) (roll-Neg x) (neg_apart x ∙ ap (λ b. if b then roll-Neg x ∷ [] else conjuncts_of_pred x.pred) is)
neg_true means p x false is h =
    ap is_true (neg_truth_roll means p x ∙ ap (λ b. not_if b (pred_truth means p x.pred)) is) ∙ h
    ∙ ap (list_all (Q means p)) (sym (neg_apart x ∙ ap (λ b. if b then roll-Neg x ∷ [] else conjuncts_of_pred x.pred) is))

rest_true : (means : Meaning) (p : Pick) (ns : List Neg) → Each (λ n. is_true (conjunct_truth means p n) ≡ list_all (Q means p) (conjuncts_of_neg n)) ns → list_all is_true (map (conjunct_truth means p) ns) ≡ list_all (Q means p) (flat_map conjuncts_of_neg ns)
rest_true means p [] h = refl
rest_true means p (n ∷ ns) h =
    ap (λ b. b && list_all is_true (map (conjunct_truth means p) ns)) h.0 ∙ ap (λ b. list_all (Q means p) (conjuncts_of_neg n) && b) (rest_true means p ns h.1)
    ∙ sym (all_append (Q means p) (conjuncts_of_neg n) (flat_map conjuncts_of_neg ns))

conj_true : (means : Meaning) (p : Pick) (x : Conj-F Pred Cond Conj Neg) → is_true (conjunct_truth means p x.first) ≡ list_all (Q means p) (conjuncts_of_neg x.first) → Each (λ n. is_true (conjunct_truth means p n) ≡ list_all (Q means p) (conjuncts_of_neg n)) x.rest → is_true (conj_truth means p (roll-Conj x)) ≡ list_all (Q means p) (conjuncts_of_conj (roll-Conj x))
conj_true means p x h k =
    ap is_true (conj_truth_roll means p x) ∙ all_true (conjunct_truth means p x.first) (map (conjunct_truth means p) x.rest)
    ∙ ap (λ b. b && list_all is_true (map (conjunct_truth means p) x.rest)) h
    ∙ ap (λ b. list_all (Q means p) (conjuncts_of_neg x.first) && b) (rest_true means p x.rest k)
    ∙ sym (all_append (Q means p) (conjuncts_of_neg x.first) (flat_map conjuncts_of_neg x.rest))
    ∙ ap (list_all (Q means p)) (sym (conj_apart x))

cond_true : (means : Meaning) (p : Pick) (x : Cond-F Pred Cond Conj Neg) (rest : List Conj) → x.rest ≡ rest → is_true (conj_truth means p x.first) ≡ list_all (Q means p) (conjuncts_of_conj x.first) → is_true (written_truth means p (roll-Cond x)) ≡ list_all (Q means p) (conjuncts (roll-Cond x))
cond_true means p x [] is h =
    ap is_true (cond_truth_roll means p x ∙ ap (λ r. or_from (conj_truth means p x.first) (map (conj_truth means p) r)) is) ∙ h
    ∙ ap (list_all (Q means p)) (sym (cond_apart x ∙ ap (or_conjuncts (roll-Cond x) (conjuncts_of_conj x.first)) is))
cond_true means p x (c ∷ cs) is h =
    ap is_true (sym (neg_truth_roll means p (record { not = false; pred = pred.Bracket (roll-Cond x) }) ∙ group_truth means p (roll-Cond x)))
    ∙ one_true means p (conjuncts (roll-Cond x)) (conjunct (pred.Bracket (roll-Cond x))) (cond_apart x ∙ ap (or_conjuncts (roll-Cond x) (conjuncts_of_conj x.first)) is)

conjuncts_true : (means : Meaning) (p : Pick) (c : Cond) → is_true (written_truth means p c) ≡ list_all (Q means p) (conjuncts c)
conjuncts_true means p = cond_induction
    (λ x. is_true (pred_truth means p x) ≡ list_all (Q means p) (conjuncts_of_pred x))
    (λ c. is_true (written_truth means p c) ≡ list_all (Q means p) (conjuncts c))
    (λ c. is_true (conj_truth means p c) ≡ list_all (Q means p) (conjuncts_of_conj c))
    (λ n. is_true (conjunct_truth means p n) ≡ list_all (Q means p) (conjuncts_of_neg n))
    (λ c h. ap is_true (group_truth means p c) ∙ h ∙ ap (list_all (Q means p)) (sym (group_apart c)))
    (λ left op right. lone_true means p _ (compare_apart left op right))
    (λ without value low high. lone_true means p _ (between_apart without value low high))
    (λ without value list. lone_true means p _ (among_apart without value list))
    (λ without value. lone_true means p _ (null_apart without value))
    (λ kind span args. lone_true means p _ (area_apart kind span args))
    (λ left right strict n. lone_true means p _ (chord_apart left right strict n))
    (λ x h. neg_true means p x x.not refl h)
    (λ x h k. conj_true means p x h k)
    (λ x h k. cond_true means p x x.rest refl h)

pub where_is_its_conjuncts : WhereIsItsConjuncts
where_is_its_conjuncts means p None = refl
where_is_its_conjuncts means p (Some c) = conjuncts_true means p c

-- ---- a bound conjunct says what the written one says

-- the truth of a formula on the row or pair
abbrev at : Pick → Formula → Option Bool
at p = truth_at (cell_of p) p.first.at

-- what a part is bound to, where it has a place in a bound condition, has this truth
abbrev Claim : {A : Type 0} → Pick → (A → Formula) → Option A → Option Bool → Type 0
Claim p formula w t = IfThere (λ x. at p (formula x) ≡ t) w

claim_as : {A : Type 0} (p : Pick) (formula : A → Formula) (w w' : Option A) (t t' : Option Bool) → w ≡ w' → t ≡ t' → Claim p formula w' t' → Claim p formula w t
claim_as p formula w w' t t' q r h = subst (λ x. Claim p formula x t) (sym q) (subst (λ x. Claim p formula w' x) (sym r) h)

negated_truth : (p : Pick) (b : Bool) (f : Formula) → at p (negated_if b f) ≡ not_if b (at p f)
negated_truth p true f = refl
negated_truth p false f = refl

bracket_claim : (p : Pick) (w : Option BoundAny) (t : Option Bool) → Claim p formula_of_any w t → Claim p formula_of_pred (bracket w) t
bracket_claim p None t h = tt
bracket_claim p (Some c) t h = ap (at p) (formula_bracket c) ∙ h

area_claim : (p : Pick) (a : Option AreaTest) → Claim p formula_of_pred (area_pred a) (option_map (λ a. area_holds a p.first.at) a)
area_claim p None = tt
area_claim p (Some a) = ap (at p) (formula_area a)

neg_claim : (p : Pick) (b : Bool) (w : Option BoundPred) (t : Option Bool) → Claim p formula_of_pred w t → Claim p formula_of (neg_by b w) (not_if b t)
neg_claim p b None t h = tt
neg_claim p b (Some x) t h = ap (at p) (formula_cond_roll (record { not = b; pred = x })) ∙ negated_truth p b (formula_of_pred x) ∙ ap (not_if b) h

all_truth : (p : Pick) (f : Formula) (gs : List Formula) → at p (all_from f gs) ≡ and_from (at p f) (map (at p) gs)
all_truth p f [] = refl
all_truth p f (g ∷ gs) = all_truth p (And f g) gs

any_truth : (p : Pick) (f : Formula) (gs : List Formula) → at p (any_from f gs) ≡ or_from (at p f) (map (at p) gs)
any_truth p f [] = refl
any_truth p f (g ∷ gs) = any_truth p (Or f g) gs

-- all parts, where each is there, have these truths
abbrev Claims : {A : Type 0} → Pick → (A → Formula) → Option (List A) → List (Option Bool) → Type 0
Claims p formula ws ts = IfThere (λ xs. map (at p) (map formula xs) ≡ ts) ws

before_claim : {A : Type 0} (p : Pick) (formula : A → Formula) (w : Option A) (ws : Option (List A)) (t : Option Bool) (ts : List (Option Bool)) → Claim p formula w t → Claims p formula ws ts → Claims p formula (before w ws) (t ∷ ts)
before_claim p formula None ws t ts h k = tt
before_claim p formula (Some x) None t ts h k = tt
before_claim p formula (Some x) (Some xs) t ts h k = ap (λ u. u ∷ map (at p) (map formula xs)) h ∙ ap (λ us. t ∷ us) k

there_claim : {A X : Type 0} (p : Pick) (formula : A → Formula) (whole : X → Option A) (truth : X → Option Bool) (xs : List X) → Each (λ x. Claim p formula (whole x) (truth x)) xs → Claims p formula (all_there (map whole xs)) (map truth xs)
there_claim p formula whole truth [] h = refl
there_claim p formula whole truth (x ∷ xs) h = before_claim p formula (whole x) (all_there (map whole xs)) (truth x) (map truth xs) h.0 (there_claim p formula whole truth xs h.1)

conj_claim : (p : Pick) (w : Option BoundCond) (ws : Option (List BoundCond)) (t : Option Bool) (ts : List (Option Bool)) → Claim p formula_of w t → Claims p formula_of ws ts → Claim p formula_of_all (conj_by w ws) (and_from t ts)
conj_claim p None ws t ts h k = tt
conj_claim p (Some c) None t ts h k = tt
conj_claim p (Some c) (Some cs) t ts h k =
    ap (at p) (formula_all_roll (record { first = c; rest = cs })) ∙ all_truth p (formula_of c) (map formula_of cs)
    ∙ ap (λ u. and_from u (map (at p) (map formula_of cs))) h ∙ ap (and_from t) k

cond_claim : (p : Pick) (w : Option BoundAll) (ws : Option (List BoundAll)) (t : Option Bool) (ts : List (Option Bool)) → Claim p formula_of_all w t → Claims p formula_of_all ws ts → Claim p formula_of_any (any_by w ws) (or_from t ts)
cond_claim p None ws t ts h k = tt
cond_claim p (Some c) None t ts h k = tt
cond_claim p (Some c) (Some cs) t ts h k =
    ap (at p) (formula_any_roll (record { first = c; rest = cs })) ∙ any_truth p (formula_of_all c) (map formula_of_all cs)
    ∙ ap (λ u. or_from u (map (at p) (map formula_of_all cs))) h ∙ ap (or_from t) k

bound_truth : (means : Meaning) (p : Pick) (n : Neg) → Claim p formula_of (bound_cond means n) (conjunct_truth means p n)
bound_truth means p = neg_induction
    (λ x. Claim p formula_of_pred (bound_pred means x) (pred_truth means p x))
    (λ c. Claim p formula_of_any (bound_any means c) (written_truth means p c))
    (λ c. Claim p formula_of_all (bound_all means c) (conj_truth means p c))
    (λ n. Claim p formula_of (bound_cond means n) (conjunct_truth means p n))
    (λ c h. claim_as p formula_of_pred _ (bracket (bound_any means c)) _ (written_truth means p c) (bound_group means c) (group_truth means p c) (bracket_claim p (bound_any means c) (written_truth means p c) h))
    (λ left op right. claim_as p formula_of_pred _ (Some (bound.Compare (expr_by means left) op (expr_by means right))) _ (truth_at_pred means p (Pred-F.Compare left op right)) (bound_compare means left op right) (fold_compare (truth_at_pred means p) truth_at_cond truth_at_conj truth_at_neg left op right)
    (ap (at p) (formula_compare (expr_by means left) op (expr_by means right))))
    (λ without value low high. claim_as p formula_of_pred _ (Some (bound.Between without (expr_by means value) (expr_by means low) (expr_by means high))) _ (truth_at_pred means p (Pred-F.Between without value low high)) (bound_between means without value low high) (fold_between (truth_at_pred means p) truth_at_cond truth_at_conj truth_at_neg without value low high)
    (ap (at p) (formula_between without (expr_by means value) (expr_by means low) (expr_by means high)) ∙ negated_truth p without _))
    (λ without value list. claim_as p formula_of_pred _ (Some (bound.Among without (expr_by means value) (values_of list))) _ (truth_at_pred means p (Pred-F.Among without value list)) (bound_among means without value list) (fold_among (truth_at_pred means p) truth_at_cond truth_at_conj truth_at_neg without value list)
    (ap (at p) (formula_among without (expr_by means value) (values_of list)) ∙ negated_truth p without _))
    (λ without value. claim_as p formula_of_pred _ (Some (bound.IsNull without (expr_by means value))) _ (truth_at_pred means p (Pred-F.IsNull without value)) (bound_null means without value) (fold_null (truth_at_pred means p) truth_at_cond truth_at_conj truth_at_neg without value)
    (ap (at p) (formula_null without (expr_by means value)) ∙ negated_truth p without _))
    (λ kind span args. claim_as p formula_of_pred _ (area_pred (area_test kind (values_of args))) _ (truth_at_pred means p (Pred-F.Area kind span args)) (bound_area means kind span args) (fold_area (truth_at_pred means p) truth_at_cond truth_at_conj truth_at_neg kind span args)
    (area_claim p (area_test kind (values_of args))))
    (λ left right strict n. claim_as p formula_of_pred _ None _ (truth_at_pred means p (Pred-F.Chord left right strict n)) (bound_chord means left right strict n) (fold_chord (truth_at_pred means p) truth_at_cond truth_at_conj truth_at_neg left right strict n) tt)
    (λ x h. claim_as p formula_of _ (neg_by x.not (bound_pred means x.pred)) _ (not_if x.not (pred_truth means p x.pred)) (bound_neg_roll means x) (neg_truth_roll means p x) (neg_claim p x.not (bound_pred means x.pred) (pred_truth means p x.pred) h))
    (λ x h k. claim_as p formula_of_all _ (conj_by (bound_cond means x.first) (all_there (map (bound_cond means) x.rest))) _ (and_from (conjunct_truth means p x.first) (map (conjunct_truth means p) x.rest)) (bound_conj_roll means x) (conj_truth_roll means p x)
    (conj_claim p (bound_cond means x.first) (all_there (map (bound_cond means) x.rest)) (conjunct_truth means p x.first) (map (conjunct_truth means p) x.rest) h (there_claim p formula_of (bound_cond means) (conjunct_truth means p) x.rest k)))
    (λ x h k. claim_as p formula_of_any _ (any_by (bound_all means x.first) (all_there (map (bound_all means) x.rest))) _ (or_from (conj_truth means p x.first) (map (conj_truth means p) x.rest)) (bound_cond_roll means x) (cond_truth_roll means p x)
    (cond_claim p (bound_all means x.first) (all_there (map (bound_all means) x.rest)) (conj_truth means p x.first) (map (conj_truth means p) x.rest) h (there_claim p formula_of_all (bound_all means) (conj_truth means p) x.rest k)))

some_claim : (p : Pick) (w : Option BoundCond) (t : Option Bool) (c : BoundCond) → w ≡ Some c → Claim p formula_of w t → truth_of c p ≡ t
some_claim p w t c is h = subst (λ x. Claim p formula_of x t) is h

pub bound_conjuncts_say_the_same : BoundConjunctsSayTheSame
bound_conjuncts_say_the_same means p n c is = some_claim p (bound_cond means n) (conjunct_truth means p n) c is (bound_truth means p n)
