-- What a condition that is made of its parts is taken apart into.
use Rattle.std.proofs.Common.{◌≡◌, ℤ, Bool, true, false, List, [], ◌∷◌, ◌++◌, map, if◌then◌else◌, refl, sym, ap, ◌∙◌, subst}
use Rattle.std.specs.List.{AllByRecursion as Each, flat_map}
use Rattle.sql_token.specs.declared.token.Span.{Span}
use Rattle.sql_tree.specs.declared.cond.AreaKind.{AreaKind}
use Rattle.sql_tree.specs.declared.cond.Cmp.{Cmp}
use Rattle.sql_tree.specs.declared.cond.Cond.{Cond, out-Cond, roll-Cond}
use Rattle.sql_tree.specs.declared.cond.Conj.{Conj, out-Conj, roll-Conj}
use Rattle.sql_tree.specs.declared.cond.IntList.{IntList}
use Rattle.sql_tree.specs.declared.cond.Neg.{Neg, out-Neg, roll-Neg}
use Rattle.sql_tree.specs.declared.cond.Pred.{Pred}
use Rattle.sql_tree.specs.declared.cond.Pred.TheFolds.{fold-roll-Cond, fold-roll-Conj, fold-roll-Neg}
use Rattle.sql_tree.specs.declared.cond.Pred.TheOpen.{Cond-F, Conj-F, Neg-F}
use Rattle.sql_tree.specs.declared.cond.Pred.TheVariants as pred
use Rattle.sql_tree.specs.declared.cond.Pred.TheViews.{roll-out-Cond, roll-out-Conj, roll-out-Neg}
use Rattle.sql_tree.specs.declared.expr.Expr.{Expr}
use Rattle.sql_tree.specs.declared.name.Name.{Name}
use Rattle.bind_rules.specs.Conjuncts.{Part, conjunct, lone, part_at_pred, part_by_not, part_at_neg, part_at_conj, or_conjuncts, part_at_cond}
use Rattle.bind_rules.specs.Conjuncts.{part_of_pred, part_of_cond, part_of_conj, part_of_neg, conjuncts, conjuncts_of_conj, conjuncts_of_neg, conjuncts_of_pred}
use Rattle.bind_rules.proofs.Folds.{fold_group, fold_compare, fold_between, fold_among, fold_null, fold_area, fold_chord}
use Rattle.bind_rules.proofs.Inductions.{cond_induction, pred_induction}

-- ---- predicates

group_part : (c : Cond) → part_of_pred (pred.Bracket c) ≡ record { whole = pred.Bracket (part_of_cond c).whole; conjuncts = conjuncts c }
unfolding part_of_pred part_of_cond
group_part c = fold_group part_at_pred part_at_cond part_at_conj part_at_neg c

compare_part : (left : Expr) (op : Cmp) (right : Expr) → part_of_pred (pred.Compare left op right) ≡ lone (pred.Compare left op right)
unfolding part_of_pred
compare_part left op right = fold_compare part_at_pred part_at_cond part_at_conj part_at_neg left op right

between_part : (without : Bool) (value low high : Expr) → part_of_pred (pred.Between without value low high) ≡ lone (pred.Between without value low high)
unfolding part_of_pred
between_part without value low high = fold_between part_at_pred part_at_cond part_at_conj part_at_neg without value low high

among_part : (without : Bool) (value : Expr) (list : IntList) → part_of_pred (pred.Among without value list) ≡ lone (pred.Among without value list)
unfolding part_of_pred
among_part without value list = fold_among part_at_pred part_at_cond part_at_conj part_at_neg without value list

null_part : (without : Bool) (value : Expr) → part_of_pred (pred.IsNull without value) ≡ lone (pred.IsNull without value)
unfolding part_of_pred
null_part without value = fold_null part_at_pred part_at_cond part_at_conj part_at_neg without value

area_part : (kind : AreaKind) (span : Span) (args : IntList) → part_of_pred (pred.Area kind span args) ≡ lone (pred.Area kind span args)
unfolding part_of_pred
area_part kind span args = fold_area part_at_pred part_at_cond part_at_conj part_at_neg kind span args

chord_part : (left right : Name) (strict : Bool) (n : ℤ) → part_of_pred (pred.Chord left right strict n) ≡ lone (pred.Chord left right strict n)
unfolding part_of_pred
chord_part left right strict n = fold_chord part_at_pred part_at_cond part_at_conj part_at_neg left right strict n

-- ---- layers

neg_part : (x : Neg-F Pred Cond Conj Neg) → part_of_neg (roll-Neg x) ≡ part_at_neg (record { not = x.not; pred = part_of_pred x.pred })
unfolding part_of_neg part_of_pred
neg_part x = fold-roll-Neg (Part Pred) (Part Cond) (Part Conj) (Part Neg) part_at_pred part_at_cond part_at_conj part_at_neg x

conj_part : (x : Conj-F Pred Cond Conj Neg) → part_of_conj (roll-Conj x) ≡ part_at_conj (record { first = part_of_neg x.first; rest = map part_of_neg x.rest })
unfolding part_of_conj part_of_neg
conj_part x = fold-roll-Conj (Part Pred) (Part Cond) (Part Conj) (Part Neg) part_at_pred part_at_cond part_at_conj part_at_neg x

cond_part : (x : Cond-F Pred Cond Conj Neg) → part_of_cond (roll-Cond x) ≡ part_at_cond (record { first = part_of_conj x.first; rest = map part_of_conj x.rest })
unfolding part_of_cond part_of_conj
cond_part x = fold-roll-Cond (Part Pred) (Part Cond) (Part Conj) (Part Neg) part_at_pred part_at_cond part_at_conj part_at_neg x

-- ---- a part stands as it is written

wholes : {X : Type 0} (part : X → Part X) (xs : List X) → Each (λ x. (part x).whole ≡ x) xs → map (λ p. p.whole) (map part xs) ≡ xs
wholes part [] h = refl
wholes part (x ∷ xs) h = rw (h.0, wholes part xs h.1) refl

neg_is : (x : Neg-F Pred Cond Conj Neg) → (part_of_pred x.pred).whole ≡ x.pred → (part_of_neg (roll-Neg x)).whole ≡ roll-Neg x
neg_is x h = ap (λ p. p.whole) (neg_part x) ∙ ap (λ p. roll-Neg (record { not = x.not; pred = p })) h

conj_is : (x : Conj-F Pred Cond Conj Neg) → (part_of_neg x.first).whole ≡ x.first → Each (λ n. (part_of_neg n).whole ≡ n) x.rest → (part_of_conj (roll-Conj x)).whole ≡ roll-Conj x
conj_is x h k =
    ap (λ p. p.whole) (conj_part x) ∙ ap (λ n. roll-Conj (record { first = n; rest = map (λ p. p.whole) (map part_of_neg x.rest) })) h
    ∙ ap (λ ns. roll-Conj (record { first = x.first; rest = ns })) (wholes part_of_neg x.rest k)

cond_is : (x : Cond-F Pred Cond Conj Neg) → (part_of_conj x.first).whole ≡ x.first → Each (λ c. (part_of_conj c).whole ≡ c) x.rest → (part_of_cond (roll-Cond x)).whole ≡ roll-Cond x
cond_is x h k =
    ap (λ p. p.whole) (cond_part x) ∙ ap (λ c. roll-Cond (record { first = c; rest = map (λ p. p.whole) (map part_of_conj x.rest) })) h
    ∙ ap (λ cs. roll-Cond (record { first = x.first; rest = cs })) (wholes part_of_conj x.rest k)

pred_whole : (x : Pred) → (part_of_pred x).whole ≡ x
pred_whole = pred_induction
    (λ p. (part_of_pred p).whole ≡ p)
    (λ c. (part_of_cond c).whole ≡ c)
    (λ c. (part_of_conj c).whole ≡ c)
    (λ n. (part_of_neg n).whole ≡ n)
    (λ c h. ap (λ p. p.whole) (group_part c) ∙ ap pred.Bracket h)
    (λ left op right. ap (λ p. p.whole) (compare_part left op right))
    (λ without value low high. ap (λ p. p.whole) (between_part without value low high))
    (λ without value list. ap (λ p. p.whole) (among_part without value list))
    (λ without value. ap (λ p. p.whole) (null_part without value))
    (λ kind span args. ap (λ p. p.whole) (area_part kind span args))
    (λ left right strict n. ap (λ p. p.whole) (chord_part left right strict n))
    neg_is
    conj_is
    cond_is

cond_whole : (x : Cond) → (part_of_cond x).whole ≡ x
cond_whole = cond_induction
    (λ p. (part_of_pred p).whole ≡ p)
    (λ c. (part_of_cond c).whole ≡ c)
    (λ c. (part_of_conj c).whole ≡ c)
    (λ n. (part_of_neg n).whole ≡ n)
    (λ c h. ap (λ p. p.whole) (group_part c) ∙ ap pred.Bracket h)
    (λ left op right. ap (λ p. p.whole) (compare_part left op right))
    (λ without value low high. ap (λ p. p.whole) (between_part without value low high))
    (λ without value list. ap (λ p. p.whole) (among_part without value list))
    (λ without value. ap (λ p. p.whole) (null_part without value))
    (λ kind span args. ap (λ p. p.whole) (area_part kind span args))
    (λ left right strict n. ap (λ p. p.whole) (chord_part left right strict n))
    neg_is
    conj_is
    cond_is

-- ---- conjuncts

-- brackets are looked through
pub group_apart : (c : Cond) → conjuncts_of_pred (pred.Bracket c) ≡ conjuncts c
group_apart c = ap (λ p. p.conjuncts) (group_part c)

pub compare_apart : (left : Expr) (op : Cmp) (right : Expr) → conjuncts_of_pred (pred.Compare left op right) ≡ conjunct (pred.Compare left op right) ∷ []
compare_apart left op right = ap (λ p. p.conjuncts) (compare_part left op right)

pub between_apart : (without : Bool) (value low high : Expr) → conjuncts_of_pred (pred.Between without value low high) ≡ conjunct (pred.Between without value low high) ∷ []
between_apart without value low high = ap (λ p. p.conjuncts) (between_part without value low high)

pub among_apart : (without : Bool) (value : Expr) (list : IntList) → conjuncts_of_pred (pred.Among without value list) ≡ conjunct (pred.Among without value list) ∷ []
among_apart without value list = ap (λ p. p.conjuncts) (among_part without value list)

pub null_apart : (without : Bool) (value : Expr) → conjuncts_of_pred (pred.IsNull without value) ≡ conjunct (pred.IsNull without value) ∷ []
null_apart without value = ap (λ p. p.conjuncts) (null_part without value)

pub area_apart : (kind : AreaKind) (span : Span) (args : IntList) → conjuncts_of_pred (pred.Area kind span args) ≡ conjunct (pred.Area kind span args) ∷ []
area_apart kind span args = ap (λ p. p.conjuncts) (area_part kind span args)

pub chord_apart : (left right : Name) (strict : Bool) (n : ℤ) → conjuncts_of_pred (pred.Chord left right strict n) ≡ conjunct (pred.Chord left right strict n) ∷ []
chord_apart left right strict n = ap (λ p. p.conjuncts) (chord_part left right strict n)

-- a predicate with NOT stays whole
pub neg_apart : (x : Neg-F Pred Cond Conj Neg) → conjuncts_of_neg (roll-Neg x) ≡ (if x.not then roll-Neg x ∷ [] else conjuncts_of_pred x.pred)
neg_apart x =
    ap (λ p. p.conjuncts) (neg_part x)
    ∙ ap (λ p. if x.not then roll-Neg (record { not = x.not; pred = p }) ∷ [] else conjuncts_of_pred x.pred) (pred_whole x.pred)

parts_in : {A X : Type 0} (part : X → Part A) (xs : List X) → flat_map (λ p. p.conjuncts) (map part xs) ≡ flat_map (λ x. (part x).conjuncts) xs
parts_in part [] = refl
parts_in part (x ∷ xs) = ap (λ ns. (part x).conjuncts ++ ns) (parts_in part xs)

-- AND is taken apart
pub conj_apart : (x : Conj-F Pred Cond Conj Neg) → conjuncts_of_conj (roll-Conj x) ≡ conjuncts_of_neg x.first ++ flat_map conjuncts_of_neg x.rest
conj_apart x = ap (λ p. p.conjuncts) (conj_part x) ∙ ap (λ ns. conjuncts_of_neg x.first ++ ns) (parts_in part_of_neg x.rest)

or_same : {A X : Type 0} (part : X → Part A) (whole : Cond) (parts : List Neg) (xs : List X) → or_conjuncts whole parts (map part xs) ≡ or_conjuncts whole parts xs
or_same part whole parts [] = refl
or_same part whole parts (x ∷ xs) = refl

-- an OR of several parts stays whole
pub cond_apart : (x : Cond-F Pred Cond Conj Neg) → conjuncts (roll-Cond x) ≡ or_conjuncts (roll-Cond x) (conjuncts_of_conj x.first) x.rest
cond_apart x =
    ap (λ p. p.conjuncts) (cond_part x)
    ∙ ap (λ c. or_conjuncts c (conjuncts_of_conj x.first) (map part_of_conj x.rest)) (sym (ap (λ p. p.whole) (cond_part x)) ∙ cond_whole (roll-Cond x))
    ∙ or_same part_of_conj (roll-Cond x) (conjuncts_of_conj x.first) x.rest

-- ---- the same of conditions that are opened

pub cond_opened : (c : Cond) → conjuncts c ≡ or_conjuncts c (conjuncts_of_conj (out-Cond c).first) (out-Cond c).rest
cond_opened c = subst (λ d. conjuncts d ≡ or_conjuncts d (conjuncts_of_conj (out-Cond c).first) (out-Cond c).rest) (roll-out-Cond c) (cond_apart (out-Cond c))

-- one part is taken apart, and several stay whole
pub cond_alone : (c : Cond) → (out-Cond c).rest ≡ [] → conjuncts c ≡ conjuncts_of_conj (out-Cond c).first
cond_alone c is = cond_opened c ∙ ap (or_conjuncts c (conjuncts_of_conj (out-Cond c).first)) is

pub cond_of_several : (c : Cond) (second : Conj) (others : List Conj) → (out-Cond c).rest ≡ second ∷ others → conjuncts c ≡ conjunct (pred.Bracket c) ∷ []
cond_of_several c second others is = cond_opened c ∙ ap (or_conjuncts c (conjuncts_of_conj (out-Cond c).first)) is

pub conj_opened : (c : Conj) → conjuncts_of_conj c ≡ conjuncts_of_neg (out-Conj c).first ++ flat_map conjuncts_of_neg (out-Conj c).rest
conj_opened c = subst (λ d. conjuncts_of_conj d ≡ conjuncts_of_neg (out-Conj c).first ++ flat_map conjuncts_of_neg (out-Conj c).rest) (roll-out-Conj c) (conj_apart (out-Conj c))

pub neg_opened : (n : Neg) → conjuncts_of_neg n ≡ (if (out-Neg n).not then n ∷ [] else conjuncts_of_pred (out-Neg n).pred)
neg_opened n = subst (λ d. conjuncts_of_neg d ≡ (if (out-Neg n).not then d ∷ [] else conjuncts_of_pred (out-Neg n).pred)) (roll-out-Neg n) (neg_apart (out-Neg n))
