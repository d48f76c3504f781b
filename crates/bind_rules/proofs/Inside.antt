-- What is gathered from a condition in the order of its text is gathered from its conjuncts.
use Rattle.std.proofs.Common.{◌≡◌, ℤ, Bool, true, false, List, [], ◌∷◌, ◌++◌, map, refl, sym, ap, ◌∙◌, subst, append-nil, if◌then◌else◌}
use Rattle.std.specs.List.{AllByRecursion as Each, flat_map}
use Rattle.sql_tree.specs.declared.cond.Cond.{Cond, roll-Cond}
use Rattle.sql_tree.specs.declared.cond.Conj.{Conj, roll-Conj}
use Rattle.sql_tree.specs.declared.cond.Neg.{Neg, roll-Neg}
use Rattle.sql_tree.specs.declared.cond.Pred.{Pred}
use Rattle.sql_tree.specs.declared.cond.Pred.TheFolds.{fold-Pred, fold-Cond, fold-Conj, fold-Neg, fold-roll-Cond, fold-roll-Conj, fold-roll-Neg}
use Rattle.sql_tree.specs.declared.cond.Pred.TheOpen.{Cond-F, Conj-F, Neg-F, Pred-F}
use Rattle.sql_tree.specs.declared.cond.Pred.TheVariants as pred
use Rattle.bind_rules.specs.Conjuncts.{conjunct, conjuncts, conjuncts_of_conj, conjuncts_of_neg, conjuncts_of_pred, or_conjuncts}
use Rattle.text_rules.specs.Readings.{joined}
use Rattle.bind_rules.proofs.Apart.{group_apart, compare_apart, between_apart, among_apart, null_apart, area_apart, chord_apart, neg_apart, conj_apart, cond_apart}
use Rattle.bind_rules.proofs.Each.{flat_append}
use Rattle.bind_rules.proofs.Folds.{fold_group}
use Rattle.bind_rules.proofs.Inductions.{cond_induction}

-- what a predicate gives, of what the condition that it holds gives
abbrev pub Leaf : Type 0 → Type 0
Leaf A = Pred-F (List A) (List A) (List A) (List A) → List A

abbrev pub from_pred : {A : Type 0} → Leaf A → Pred → List A
from_pred {A} leaf = fold-Pred (List A) (List A) (List A) (List A) leaf (λ c. c.first ++ joined c.rest) (λ c. c.first ++ joined c.rest) (λ n. n.pred)

abbrev pub from_cond : {A : Type 0} → Leaf A → Cond → List A
from_cond {A} leaf = fold-Cond (List A) (List A) (List A) (List A) leaf (λ c. c.first ++ joined c.rest) (λ c. c.first ++ joined c.rest) (λ n. n.pred)

abbrev pub from_conj : {A : Type 0} → Leaf A → Conj → List A
from_conj {A} leaf = fold-Conj (List A) (List A) (List A) (List A) leaf (λ c. c.first ++ joined c.rest) (λ c. c.first ++ joined c.rest) (λ n. n.pred)

abbrev pub from_neg : {A : Type 0} → Leaf A → Neg → List A
from_neg {A} leaf = fold-Neg (List A) (List A) (List A) (List A) leaf (λ c. c.first ++ joined c.rest) (λ c. c.first ++ joined c.rest) (λ n. n.pred)

-- what a predicate gives as a conjunct
pub from_conjunct : {A : Type 0} (leaf : Leaf A) (b : Bool) (p : Pred) → from_neg leaf (roll-Neg (record { not = b; pred = p })) ≡ from_pred leaf p
from_conjunct {A} leaf b p = fold-roll-Neg (List A) (List A) (List A) (List A) leaf (λ c. c.first ++ joined c.rest) (λ c. c.first ++ joined c.rest) (λ n. n.pred) (record { not = b; pred = p })

-- of one conjunct
one : {A : Type 0} (leaf : Leaf A) (ns : List Neg) (n : Neg) → ns ≡ n ∷ [] → flat_map (from_neg leaf) ns ≡ from_neg leaf n
one leaf ns n is = ap (flat_map (from_neg leaf)) is ∙ append-nil (from_neg leaf n)

lone_step : {A : Type 0} (leaf : Leaf A) (p : Pred) → conjuncts_of_pred p ≡ conjunct p ∷ [] → from_pred leaf p ≡ flat_map (from_neg leaf) (conjuncts_of_pred p)
lone_step leaf p is = sym (one leaf (conjuncts_of_pred p) (conjunct p) is ∙ from_conjunct leaf false p)

neg_step : {A : Type 0} (leaf : Leaf A) (x : Neg-F Pred Cond Conj Neg) (b : Bool) → x.not ≡ b → from_pred leaf x.pred ≡ flat_map (from_neg leaf) (conjuncts_of_pred x.pred) → from_neg leaf (roll-Neg x) ≡ flat_map (from_neg leaf) (conjuncts_of_neg (roll-Neg x))
neg_step leaf x true is h = sym (one leaf (conjuncts_of_neg (roll-Neg x)) (roll-Neg x) (neg_apart x ∙ ap (λ b. if b then roll-Neg x ∷ [] else conjuncts_of_pred x.pred) is))
neg_step leaf x false is h =
    from_conjunct leaf x.not x.pred ∙ h
    ∙ ap (flat_map (from_neg leaf)) (sym (neg_apart x ∙ ap (λ b. if b then roll-Neg x ∷ [] else conjuncts_of_pred x.pred) is))

rest_step : {A X : Type 0} (leaf : Leaf A) (from : X → List A) (apart : X → List Neg) (xs : List X) → Each (λ x. from x ≡ flat_map (from_neg leaf) (apart x)) xs → joined (map from xs) ≡ flat_map (from_neg leaf) (flat_map apart xs)
rest_step leaf from apart [] h = refl
rest_step leaf from apart (x ∷ xs) h =
    ap (λ t. t ++ joined (map from xs)) h.0 ∙ ap (λ t. flat_map (from_neg leaf) (apart x) ++ t) (rest_step leaf from apart xs h.1)
    ∙ sym (flat_append (from_neg leaf) (apart x) (flat_map apart xs))

conj_step : {A : Type 0} (leaf : Leaf A) (x : Conj-F Pred Cond Conj Neg) → from_neg leaf x.first ≡ flat_map (from_neg leaf) (conjuncts_of_neg x.first) → Each (λ n. from_neg leaf n ≡ flat_map (from_neg leaf) (conjuncts_of_neg n)) x.rest → from_conj leaf (roll-Conj x) ≡ flat_map (from_neg leaf) (conjuncts_of_conj (roll-Conj x))
conj_step {A} leaf x h k =
    fold-roll-Conj (List A) (List A) (List A) (List A) leaf (λ c. c.first ++ joined c.rest) (λ c. c.first ++ joined c.rest) (λ n. n.pred) x
    ∙ ap (λ t. t ++ joined (map (from_neg leaf) x.rest)) h
    ∙ ap (λ t. flat_map (from_neg leaf) (conjuncts_of_neg x.first) ++ t) (rest_step leaf (from_neg leaf) conjuncts_of_neg x.rest k)
    ∙ sym (flat_append (from_neg leaf) (conjuncts_of_neg x.first) (flat_map conjuncts_of_neg x.rest))
    ∙ ap (flat_map (from_neg leaf)) (sym (conj_apart x))

cond_step : {A : Type 0} (leaf : Leaf A) → ((c : List A) → leaf (Pred-F.Bracket c) ≡ c) → (x : Cond-F Pred Cond Conj Neg) (rest : List Conj) → x.rest ≡ rest → from_conj leaf x.first ≡ flat_map (from_neg leaf) (conjuncts_of_conj x.first) → from_cond leaf (roll-Cond x) ≡ flat_map (from_neg leaf) (conjuncts (roll-Cond x))
cond_step {A} leaf through x [] is h =
    fold-roll-Cond (List A) (List A) (List A) (List A) leaf (λ c. c.first ++ joined c.rest) (λ c. c.first ++ joined c.rest) (λ n. n.pred) x
    ∙ ap (λ r. from_conj leaf x.first ++ joined (map (from_conj leaf) r)) is ∙ append-nil (from_conj leaf x.first) ∙ h
    ∙ ap (flat_map (from_neg leaf)) (sym (cond_apart x ∙ ap (or_conjuncts (roll-Cond x) (conjuncts_of_conj x.first)) is))
cond_step {A} leaf through x (c ∷ cs) is h =
    sym (one leaf (conjuncts (roll-Cond x)) (conjunct (pred.Bracket (roll-Cond x))) (cond_apart x ∙ ap (or_conjuncts (roll-Cond x) (conjuncts_of_conj x.first)) is)
    ∙ from_conjunct leaf false (pred.Bracket (roll-Cond x))
    ∙ fold_group leaf (λ c. c.first ++ joined c.rest) (λ c. c.first ++ joined c.rest) (λ n. n.pred) (roll-Cond x)
    ∙ through (from_cond leaf (roll-Cond x)))

pub from_conjuncts : {A : Type 0} (leaf : Leaf A) → ((c : List A) → leaf (Pred-F.Bracket c) ≡ c) → (c : Cond) → from_cond leaf c ≡ flat_map (from_neg leaf) (conjuncts c)
from_conjuncts leaf through = cond_induction
    (λ p. from_pred leaf p ≡ flat_map (from_neg leaf) (conjuncts_of_pred p))
    (λ c. from_cond leaf c ≡ flat_map (from_neg leaf) (conjuncts c))
    (λ c. from_conj leaf c ≡ flat_map (from_neg leaf) (conjuncts_of_conj c))
    (λ n. from_neg leaf n ≡ flat_map (from_neg leaf) (conjuncts_of_neg n))
    (λ c h. fold_group leaf (λ c. c.first ++ joined c.rest) (λ c. c.first ++ joined c.rest) (λ n. n.pred) c ∙ through (from_cond leaf c) ∙ h ∙ ap (flat_map (from_neg leaf)) (sym (group_apart c)))
    (λ left op right. lone_step leaf _ (compare_apart left op right))
    (λ without value low high. lone_step leaf _ (between_apart without value low high))
    (λ without value list. lone_step leaf _ (among_apart without value list))
    (λ without value. lone_step leaf _ (null_apart without value))
    (λ kind span args. lone_step leaf _ (area_apart kind span args))
    (λ left right strict n. lone_step leaf _ (chord_apart left right strict n))
    (λ x h. neg_step leaf x x.not refl h)
    (λ x h k. conj_step leaf x h k)
    (λ x h k. cond_step leaf through x x.rest refl h)
