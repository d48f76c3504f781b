-- The truth of a written WHERE on a row or on a pair of rows, its chord test included: true, false, or None for
-- unknown.
use Rattle.std.specs.Prelude.{ℤ, int_le, int_lt, is_none, Bool, true, false, if◌then◌else◌, List, [], ◌∷◌, Option, None, Some}
use Rattle.std.specs.Option.{option_map}
use Rattle.sky_vector.specs.Points.{chord_squared}
use Rattle.sql_tree.specs.declared.cond.Cmp.TheVariants.{AtMost}
use Rattle.sql_tree.specs.declared.cond.Cond.{Cond}
use Rattle.sql_tree.specs.declared.cond.Neg.{Neg}
use Rattle.sql_tree.specs.declared.cond.Pred.TheFolds.{fold-Cond, fold-Neg}
use Rattle.sql_tree.specs.declared.cond.Pred.TheOpen.{Cond-F, Conj-F, Neg-F, Pred-F}
use Rattle.value_rules.specs.Areas.{area_holds}
use Rattle.value_rules.specs.Truth.{compared, among, truth_not, truth_and, truth_or, is_true}
use Rattle.value_rules.specs.Values.{Pick, value_of}
use Rattle.bind_rules.specs.Areas.{area_test}
use Rattle.bind_rules.specs.Bounds.{Meaning, expr_by}
use Rattle.bind_rules.specs.Forms.{values_of}

-- a truth, negated if there is a NOT
abbrev pub not_if : Bool → Option Bool → Option Bool
not_if without t = if without then truth_not t else t

-- the squared chord is at most n, or below it if the test is strict
abbrev pub is_within : Bool → ℤ → ℤ → Bool
is_within strict n d = if strict then int_lt d n else int_le d n

-- the truth of a chord test on a pair; on a single row it is unknown
abbrev pub chord_truth : Pick → Bool → ℤ → Option Bool
chord_truth p strict n = option_map (λ o. is_within strict n (chord_squared p.first.at o.at)) p.second

-- a layer of a condition, given the truths of its parts
abbrev pub Truth-F : (Type 0 → Type 0 → Type 0 → Type 0 → Type 0) → Type 0
Truth-F F = F (Option Bool) (Option Bool) (Option Bool) (Option Bool)

-- the truth of a predicate
abbrev pub truth_at_pred : Meaning → Pick → Truth-F Pred-F → Option Bool
truth_at_pred means p (Pred-F.Bracket c) = c
truth_at_pred means p (Pred-F.Compare left op right) =
    compared op (value_of (expr_by means left) p) (value_of (expr_by means right) p)
truth_at_pred means p (Pred-F.Between without value low high) =
    not_if without (truth_and
    (compared AtMost (value_of (expr_by means low) p) (value_of (expr_by means value) p))
    (compared AtMost (value_of (expr_by means value) p) (value_of (expr_by means high) p)))
truth_at_pred means p (Pred-F.Among without value list) =
    not_if without (among (value_of (expr_by means value) p) (values_of list))
truth_at_pred means p (Pred-F.IsNull without value) = not_if without (Some (is_none (value_of (expr_by means value) p)))
truth_at_pred means p (Pred-F.Area kind span args) =
    option_map (λ a. area_holds a p.first.at) (area_test kind (values_of args))
truth_at_pred means p (Pred-F.Chord left right strict n) = chord_truth p strict n

-- the truth of a predicate with or without NOT
abbrev pub truth_at_neg : Truth-F Neg-F → Option Bool
truth_at_neg n = not_if n.not n.pred

-- truths joined by AND, from the left
abbrev pub and_from : Option Bool → List (Option Bool) → Option Bool
and_from t [] = t
and_from t (u ∷ us) = and_from (truth_and t u) us

-- truths joined by OR, from the left
abbrev pub or_from : Option Bool → List (Option Bool) → Option Bool
or_from t [] = t
or_from t (u ∷ us) = or_from (truth_or t u) us

-- the truth of a conjunction
abbrev pub truth_at_conj : Truth-F Conj-F → Option Bool
truth_at_conj c = and_from c.first c.rest

-- the truth of a condition
abbrev pub truth_at_cond : Truth-F Cond-F → Option Bool
truth_at_cond c = or_from c.first c.rest

-- the truth of a written condition
unfoldable pub written_truth : Meaning → Pick → Cond → Option Bool
written_truth means p =
    fold-Cond (Option Bool) (Option Bool) (Option Bool) (Option Bool) (truth_at_pred means p) truth_at_cond truth_at_conj
    truth_at_neg

-- the truth of a written conjunct
unfoldable pub conjunct_truth : Meaning → Pick → Neg → Option Bool
conjunct_truth means p =
    fold-Neg (Option Bool) (Option Bool) (Option Bool) (Option Bool) (truth_at_pred means p) truth_at_cond truth_at_conj
    truth_at_neg

-- WHERE is true, and not unknown; without a WHERE every row is accepted
abbrev pub where_holds : Meaning → Pick → Option Cond → Bool
where_holds means p None = true
where_holds means p (Some c) = is_true (written_truth means p c)
