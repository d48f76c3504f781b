-- What a conjunct is: a predicate with NOT, an OR of several parts in brackets, or a predicate that is no bracket.
use Rattle.std.proofs.Common.{◌≡◌, ℤ, Bool, true, false, List, [], ◌∷◌, ◌++◌, map, Option, Some, None, refl, sym, ap, ◌∙◌, subst, append-nil, if◌then◌else◌}
use Rattle.std.specs.List.{AllByRecursion as Each, flat_map}
use Rattle.sql_token.specs.declared.token.Span.{Span}
use Rattle.sql_tree.specs.declared.cond.AreaKind.{AreaKind}
use Rattle.sql_tree.specs.declared.cond.Cmp.{Cmp}
use Rattle.sql_tree.specs.declared.cond.Cond.{Cond, roll-Cond}
use Rattle.sql_tree.specs.declared.cond.Conj.{Conj, roll-Conj}
use Rattle.sql_tree.specs.declared.cond.IntList.{IntList}
use Rattle.sql_tree.specs.declared.cond.Neg.{Neg, roll-Neg}
use Rattle.sql_tree.specs.declared.cond.Pred.{Pred, out-Pred}
use Rattle.sql_tree.specs.declared.cond.Pred.TheOpen.{Cond-F, Conj-F, Neg-F, Pred-F}
use Rattle.sql_tree.specs.declared.cond.Pred.TheVariants as pred
use Rattle.sql_tree.specs.declared.cond.Pred.TheViews.{out-roll-Neg, out-roll-Pred}
use Rattle.sql_tree.specs.declared.expr.Expr.{Expr}
use Rattle.sql_tree.specs.declared.name.Name.{Name}
use Rattle.bind_rules.specs.Conjuncts.{conjunct, conjuncts, conjuncts_of_conj, conjuncts_of_neg, conjuncts_of_pred, or_conjuncts}
use Rattle.bind_rules.specs.Tops.{Tests, test_at_pred, test_without, test_of}
use Rattle.bind_rules.proofs.Apart.{group_apart, compare_apart, between_apart, among_apart, null_apart, area_apart, chord_apart, neg_apart, conj_apart, cond_apart}
use Rattle.bind_rules.proofs.Each.{both, of_parts}
use Rattle.bind_rules.proofs.Inductions.{cond_induction}

-- What a conjunct is.
pub data View (n : Neg) : Type 0 where
  Negated : (p : Pred) → n ≡ roll-Neg (record { not = true; pred = p }) → View n
  Either : (first second : Conj) (rest : List Conj) → n ≡ conjunct (pred.Bracket (roll-Cond (record { first = first; rest = second ∷ rest }))) → View n
  Compared : (left : Expr) (op : Cmp) (right : Expr) → n ≡ conjunct (pred.Compare left op right) → View n
  IsBetween : (without : Bool) (value low high : Expr) → n ≡ conjunct (pred.Between without value low high) → View n
  IsAmong : (without : Bool) (value : Expr) (list : IntList) → n ≡ conjunct (pred.Among without value list) → View n
  Null : (without : Bool) (value : Expr) → n ≡ conjunct (pred.IsNull without value) → View n
  InArea : (kind : AreaKind) (span : Span) (args : IntList) → n ≡ conjunct (pred.Area kind span args) → View n
  OfChord : (left right : Name) (strict : Bool) (n' : ℤ) → n ≡ conjunct (pred.Chord left right strict n') → View n

-- what one conjunct is
one_view : (ns : List Neg) (n : Neg) → ns ≡ n ∷ [] → View n → Each View ns
one_view ns n is v = subst (Each View) (sym is) (v, tt)

neg_views : (x : Neg-F Pred Cond Conj Neg) (b : Bool) → x.not ≡ b → Each View (conjuncts_of_pred x.pred) → Each View (if b then roll-Neg x ∷ [] else conjuncts_of_pred x.pred)
neg_views x true is h = (Negated x.pred (ap (λ b. roll-Neg (record { not = b; pred = x.pred })) is), tt)
neg_views x false is h = h

or_views : (first : Conj) (rest : List Conj) → Each View (conjuncts_of_conj first) → Each View (or_conjuncts (roll-Cond (record { first = first; rest = rest })) (conjuncts_of_conj first) rest)
or_views first [] h = h
or_views first (c ∷ cs) h = (Either first c cs refl, tt)

-- each conjunct of a condition is one of these
pub views : (c : Cond) → Each View (conjuncts c)
views = cond_induction
    (λ p. Each View (conjuncts_of_pred p))
    (λ c. Each View (conjuncts c))
    (λ c. Each View (conjuncts_of_conj c))
    (λ n. Each View (conjuncts_of_neg n))
    (λ c h. subst (Each View) (sym (group_apart c)) h)
    (λ left op right. one_view _ _ (compare_apart left op right) (Compared left op right refl))
    (λ without value low high. one_view _ _ (between_apart without value low high) (IsBetween without value low high refl))
    (λ without value list. one_view _ _ (among_apart without value list) (IsAmong without value list refl))
    (λ without value. one_view _ _ (null_apart without value) (Null without value refl))
    (λ kind span args. one_view _ _ (area_apart kind span args) (InArea kind span args refl))
    (λ left right strict n. one_view _ _ (chord_apart left right strict n) (OfChord left right strict n refl))
    (λ x h. subst (Each View) (sym (neg_apart x)) (neg_views x x.not refl h))
    (λ x h k. subst (Each View) (sym (conj_apart x)) (both View (conjuncts_of_neg x.first) (flat_map conjuncts_of_neg x.rest) h (of_parts View conjuncts_of_neg x.rest k)))
    (λ x h k. subst (Each View) (sym (cond_apart x)) (or_views x.first x.rest h))

-- ---- predicates, opened

pub group_shown : (c : Cond) → out-Pred (pred.Bracket c) ≡ Pred-F.Bracket c
group_shown c = ap out-Pred (sym (pred.rolls-Bracket c)) ∙ out-roll-Pred (Pred-F.Bracket c)

pub compare_shown : (left : Expr) (op : Cmp) (right : Expr) → out-Pred (pred.Compare left op right) ≡ Pred-F.Compare left op right
compare_shown left op right = ap out-Pred (sym (pred.rolls-Compare left op right)) ∙ out-roll-Pred (Pred-F.Compare left op right)

pub between_shown : (without : Bool) (value low high : Expr) → out-Pred (pred.Between without value low high) ≡ Pred-F.Between without value low high
between_shown without value low high = ap out-Pred (sym (pred.rolls-Between without value low high)) ∙ out-roll-Pred (Pred-F.Between without value low high)

pub among_shown : (without : Bool) (value : Expr) (list : IntList) → out-Pred (pred.Among without value list) ≡ Pred-F.Among without value list
among_shown without value list = ap out-Pred (sym (pred.rolls-Among without value list)) ∙ out-roll-Pred (Pred-F.Among without value list)

pub null_shown : (without : Bool) (value : Expr) → out-Pred (pred.IsNull without value) ≡ Pred-F.IsNull without value
null_shown without value = ap out-Pred (sym (pred.rolls-IsNull without value)) ∙ out-roll-Pred (Pred-F.IsNull without value)

pub area_shown : (kind : AreaKind) (span : Span) (args : IntList) → out-Pred (pred.Area kind span args) ≡ Pred-F.Area kind span args
area_shown kind span args = ap out-Pred (sym (pred.rolls-Area kind span args)) ∙ out-roll-Pred (Pred-F.Area kind span args)

pub chord_shown : (left right : Name) (strict : Bool) (n : ℤ) → out-Pred (pred.Chord left right strict n) ≡ Pred-F.Chord left right strict n
chord_shown left right strict n = ap out-Pred (sym (pred.rolls-Chord left right strict n)) ∙ out-roll-Pred (Pred-F.Chord left right strict n)

-- ---- the test that a conjunct is

-- the test that a predicate is
abbrev pub leaf_test : Pred-F Pred Cond Conj Neg → Tests
leaf_test = test_at_pred

test_of_roll : (b : Bool) (p : Pred) → test_of (roll-Neg (record { not = b; pred = p })) ≡ test_without b (out-Pred p)
unfolding test_of
test_of_roll b p = ap (λ x. test_without x.not (out-Pred x.pred)) (out-roll-Neg (record { not = b; pred = p }))

pub negated_test : (p : Pred) → test_of (roll-Neg (record { not = true; pred = p })) ≡ []
negated_test p = test_of_roll true p

pub group_test : (c : Cond) → test_of (conjunct (pred.Bracket c)) ≡ []
group_test c = test_of_roll false (pred.Bracket c) ∙ ap leaf_test (group_shown c)

pub compare_test : (left : Expr) (op : Cmp) (right : Expr) → test_of (conjunct (pred.Compare left op right)) ≡ leaf_test (Pred-F.Compare left op right)
compare_test left op right = test_of_roll false (pred.Compare left op right) ∙ ap leaf_test (compare_shown left op right)

pub between_test : (without : Bool) (value low high : Expr) → test_of (conjunct (pred.Between without value low high)) ≡ []
between_test without value low high = test_of_roll false (pred.Between without value low high) ∙ ap leaf_test (between_shown without value low high)

pub among_test : (without : Bool) (value : Expr) (list : IntList) → test_of (conjunct (pred.Among without value list)) ≡ leaf_test (Pred-F.Among without value list)
among_test without value list = test_of_roll false (pred.Among without value list) ∙ ap leaf_test (among_shown without value list)

pub null_test : (without : Bool) (value : Expr) → test_of (conjunct (pred.IsNull without value)) ≡ []
null_test without value = test_of_roll false (pred.IsNull without value) ∙ ap leaf_test (null_shown without value)

pub area_test_of : (kind : AreaKind) (span : Span) (args : IntList) → test_of (conjunct (pred.Area kind span args)) ≡ leaf_test (Pred-F.Area kind span args)
area_test_of kind span args = test_of_roll false (pred.Area kind span args) ∙ ap leaf_test (area_shown kind span args)

pub chord_test : (left right : Name) (strict : Bool) (n : ℤ) → test_of (conjunct (pred.Chord left right strict n)) ≡ leaf_test (Pred-F.Chord left right strict n)
chord_test left right strict n = test_of_roll false (pred.Chord left right strict n) ∙ ap leaf_test (chord_shown left right strict n)
