-- A condition and its parts, bound layer by layer: as a whole, and taken apart into conjuncts.
use Rattle.std.proofs.Common.{◌≡◌, ℤ, Bool, true, false, List, [], ◌∷◌, ◌++◌, map, ap, ◌∙◌, sym, subst, refl, append-nil, if◌then◌else◌}
use Rattle.std.specs.List.{flat_map}
use Rattle.std.specs.Prelude.{option_to_list}
use Rattle.sql_token.specs.declared.token.Span.{Span}
use Rattle.sql_bound.specs.declared.cond.BoundPred.TheVariants as bound
use Rattle.sql_tree.specs.declared.cond.AreaKind.{AreaKind}
use Rattle.sql_tree.specs.declared.cond.Cmp.{Cmp}
use Rattle.sql_tree.specs.declared.cond.Cond.{Cond, out-Cond}
use Rattle.sql_tree.specs.declared.cond.Conj.{Conj, out-Conj}
use Rattle.sql_tree.specs.declared.cond.IntList.{IntList}
use Rattle.sql_tree.specs.declared.cond.Neg.{Neg, out-Neg}
use Rattle.sql_tree.specs.declared.cond.Pred.{Pred}
use Rattle.sql_tree.specs.declared.cond.Pred.TheVariants as pred
use Rattle.sql_tree.specs.declared.expr.Expr.{Expr}
use Rattle.sql_tree.specs.declared.name.Name.{Name}
use Rattle.std.specs.Prelude.{Option, None, Some}
use Rattle.bind_rules.specs.Areas.{area_test}
use Rattle.bind_rules.specs.Bounds.{Meaning, expr_by}
use Rattle.bind_rules.specs.Conjuncts.{conjunct, conjuncts, conjuncts_of_conj, conjuncts_of_neg, conjuncts_of_pred, or_conjuncts}
use Rattle.bind_rules.specs.Forms.{values_of}
use Rattle.bind_rules.specs.Wholes.{area_pred, bracket, all_there, conj_by, any_by, neg_by, bound_pred, bound_any, bound_all, bound_cond, bound_conjunct}
use Rattle.sql_bind.specs.Layers.{as_cond, conds_of_cond, conds_of_conj, conds_of_neg, conds_of_pred}
use Rattle.bind_rules.proofs.Apart.{group_apart, compare_apart, between_apart, among_apart, null_apart, area_apart, chord_apart, cond_opened, conj_opened, neg_opened}
use Rattle.bind_rules.proofs.Each.{flat_append, flat_twice}
use Rattle.bind_rules.proofs.Wholes.{bound_group, bound_compare, bound_between, bound_among, bound_null, bound_area, bound_chord, bound_neg_roll, bound_neg_out, bound_conj_out, bound_cond_out}

-- ---- wholes

pub cond_whole : (means : Meaning) (c : Cond) → bound_any means c ≡ any_by (bound_all means (out-Cond c).first) (all_there (map (bound_all means) (out-Cond c).rest))
cond_whole means c = bound_cond_out means c

pub conj_whole : (means : Meaning) (c : Conj) → bound_all means c ≡ conj_by (bound_cond means (out-Conj c).first) (all_there (map (bound_cond means) (out-Conj c).rest))
conj_whole means c = bound_conj_out means c

pub neg_whole : (means : Meaning) (n : Neg) → bound_cond means n ≡ neg_by (out-Neg n).not (bound_pred means (out-Neg n).pred)
neg_whole means n = bound_neg_out means n

pub group_whole : (means : Meaning) (c : Cond) → bound_pred means (pred.Bracket c) ≡ bracket (bound_any means c)
group_whole means c = bound_group means c

pub compare_whole : (means : Meaning) (left : Expr) (op : Cmp) (right : Expr) → bound_pred means (pred.Compare left op right) ≡ Some (bound.Compare (expr_by means left) op (expr_by means right))
compare_whole means left op right = bound_compare means left op right

pub between_whole : (means : Meaning) (without : Bool) (value low high : Expr) → bound_pred means (pred.Between without value low high) ≡ Some (bound.Between without (expr_by means value) (expr_by means low) (expr_by means high))
between_whole means without value low high = bound_between means without value low high

pub among_whole : (means : Meaning) (without : Bool) (value : Expr) (list : IntList) → bound_pred means (pred.Among without value list) ≡ Some (bound.Among without (expr_by means value) (values_of list))
among_whole means without value list = bound_among means without value list

pub null_whole : (means : Meaning) (without : Bool) (value : Expr) → bound_pred means (pred.IsNull without value) ≡ Some (bound.IsNull without (expr_by means value))
null_whole means without value = bound_null means without value

pub area_whole : (means : Meaning) (kind : AreaKind) (span : Span) (args : IntList) → bound_pred means (pred.Area kind span args) ≡ area_pred (area_test kind (values_of args))
area_whole means kind span args = bound_area means kind span args

pub chord_whole : (means : Meaning) (left right : Name) (strict : Bool) (n : ℤ) → bound_pred means (pred.Chord left right strict n) ≡ None
chord_whole means left right strict n = bound_chord means left right strict n

-- ---- conjuncts

-- a conjunct without NOT
as_conjunct : (means : Meaning) (p : Pred) (ns : List Neg) → ns ≡ conjunct p ∷ [] → flat_map (bound_conjunct means) ns ≡ as_cond (bound_pred means p)
as_conjunct means p ns is =
    ap (flat_map (bound_conjunct means)) is ∙ append-nil (bound_conjunct means (conjunct p))
    ∙ ap option_to_list (bound_neg_roll means (record { not = false; pred = p }))

-- of one part
pub cond_one : (means : Meaning) (c : Cond) → (out-Cond c).rest ≡ [] → conds_of_cond means c ≡ conds_of_conj means (out-Cond c).first
cond_one means c none =
    ap (flat_map (bound_conjunct means)) (cond_opened c ∙ ap (or_conjuncts c (conjuncts_of_conj (out-Cond c).first)) none)

or_more : {A : Type 0} (c : Cond) (parts : List Neg) (xs : List A) → (xs ≡ [] → ⊥) → or_conjuncts c parts xs ≡ conjunct (pred.Bracket c) ∷ []
or_more c parts [] some = absurd (some refl)
or_more c parts (x ∷ xs) some = refl

-- of more than one part
pub cond_more : (means : Meaning) (c : Cond) → ((out-Cond c).rest ≡ [] → ⊥) → conds_of_cond means c ≡ as_cond (bracket (bound_any means c))
cond_more means c some =
    as_conjunct means (pred.Bracket c) (conjuncts c) (cond_opened c ∙ or_more c (conjuncts_of_conj (out-Cond c).first) (out-Cond c).rest some)
    ∙ ap as_cond (bound_group means c)

pub conj_conjuncts : (means : Meaning) (c : Conj) → conds_of_conj means c ≡ conds_of_neg means (out-Conj c).first ++ flat_map (conds_of_neg means) (out-Conj c).rest
conj_conjuncts means c =
    ap (flat_map (bound_conjunct means)) (conj_opened c)
    ∙ flat_append (bound_conjunct means) (conjuncts_of_neg (out-Conj c).first) (flat_map conjuncts_of_neg (out-Conj c).rest)
    ∙ ap (λ t. conds_of_neg means (out-Conj c).first ++ t) (flat_twice (bound_conjunct means) conjuncts_of_neg (out-Conj c).rest)

neg_by_not : (means : Meaning) (n : Neg) (b : Bool) → (out-Neg n).not ≡ b → conds_of_neg means n ≡ flat_map (bound_conjunct means) (if b then n ∷ [] else conjuncts_of_pred (out-Neg n).pred)
neg_by_not means n b is = ap (flat_map (bound_conjunct means)) (neg_opened n ∙ ap (λ b. if b then n ∷ [] else conjuncts_of_pred (out-Neg n).pred) is)

-- with NOT
pub neg_with : (means : Meaning) (n : Neg) → (out-Neg n).not ≡ true → conds_of_neg means n ≡ option_to_list (bound_cond means n)
neg_with means n is = neg_by_not means n true is ∙ append-nil (bound_conjunct means n)

-- without NOT
pub neg_without : (means : Meaning) (n : Neg) → (out-Neg n).not ≡ false → conds_of_neg means n ≡ conds_of_pred means (out-Neg n).pred
neg_without means n is = neg_by_not means n false is

pub group_conjuncts : (means : Meaning) (c : Cond) → conds_of_pred means (pred.Bracket c) ≡ conds_of_cond means c
group_conjuncts means c = ap (flat_map (bound_conjunct means)) (group_apart c)

-- a predicate that is no bracket is its own conjunct

pub compare_lone : (means : Meaning) (left : Expr) (op : Cmp) (right : Expr) → conds_of_pred means (pred.Compare left op right) ≡ as_cond (bound_pred means (pred.Compare left op right))
compare_lone means left op right = as_conjunct means _ _ (compare_apart left op right)

pub between_lone : (means : Meaning) (without : Bool) (value low high : Expr) → conds_of_pred means (pred.Between without value low high) ≡ as_cond (bound_pred means (pred.Between without value low high))
between_lone means without value low high = as_conjunct means _ _ (between_apart without value low high)

pub among_lone : (means : Meaning) (without : Bool) (value : Expr) (list : IntList) → conds_of_pred means (pred.Among without value list) ≡ as_cond (bound_pred means (pred.Among without value list))
among_lone means without value list = as_conjunct means _ _ (among_apart without value list)

pub null_lone : (means : Meaning) (without : Bool) (value : Expr) → conds_of_pred means (pred.IsNull without value) ≡ as_cond (bound_pred means (pred.IsNull without value))
null_lone means without value = as_conjunct means _ _ (null_apart without value)

pub area_lone : (means : Meaning) (kind : AreaKind) (span : Span) (args : IntList) → conds_of_pred means (pred.Area kind span args) ≡ as_cond (bound_pred means (pred.Area kind span args))
area_lone means kind span args = as_conjunct means _ _ (area_apart kind span args)

pub chord_lone : (means : Meaning) (left right : Name) (strict : Bool) (n : ℤ) → conds_of_pred means (pred.Chord left right strict n) ≡ as_cond (bound_pred means (pred.Chord left right strict n))
chord_lone means left right strict n = as_conjunct means _ _ (chord_apart left right strict n)
