-- The conjuncts of WHERE, as written: AND is split and brackets are removed, but an OR of several parts and a NOT are
-- not split.
use Rattle.std.specs.Prelude.{ℤ, Bool, false, if◌then◌else◌, List, [], ◌∷◌, ◌++◌, map, Option, None, Some}
use Rattle.std.specs.List.{flat_map}
use Rattle.sql_tree.specs.declared.cond.Cond.{Cond, roll-Cond}
use Rattle.sql_tree.specs.declared.cond.Conj.{Conj, roll-Conj}
use Rattle.sql_tree.specs.declared.cond.Neg.{Neg, roll-Neg}
use Rattle.sql_tree.specs.declared.cond.Pred.{Pred}
use Rattle.sql_tree.specs.declared.cond.Pred.TheFolds.{fold-Cond, fold-Conj, fold-Neg, fold-Pred}
use Rattle.sql_tree.specs.declared.cond.Pred.TheOpen.{Cond-F, Conj-F, Neg-F, Pred-F}
use Rattle.sql_tree.specs.declared.cond.Pred.TheVariants as pred

-- A part of a condition as it is, and the conjuncts into which it is split.
pub record Part (A : Type 0) : Type 0 where
  pub whole : A
  pub conjuncts : List Neg

-- a layer of a condition whose parts are split
abbrev pub Part-F : (Type 0 → Type 0 → Type 0 → Type 0 → Type 0) → Type 0
Part-F F = F (Part Pred) (Part Cond) (Part Conj) (Part Neg)

-- a predicate as a conjunct
abbrev pub conjunct : Pred → Neg
conjunct p = roll-Neg (record { not = false; pred = p })

-- a predicate that is no bracket is one conjunct
abbrev pub lone : Pred → Part Pred
lone p = record { whole = p; conjuncts = conjunct p ∷ [] }

-- the conjuncts of a predicate: brackets are removed
abbrev pub part_at_pred : Part-F Pred-F → Part Pred
part_at_pred (Pred-F.Bracket c) = record { whole = pred.Bracket c.whole; conjuncts = c.conjuncts }
part_at_pred (Pred-F.Compare left op right) = lone (pred.Compare left op right)
part_at_pred (Pred-F.Between without value low high) = lone (pred.Between without value low high)
part_at_pred (Pred-F.Among without value list) = lone (pred.Among without value list)
part_at_pred (Pred-F.IsNull without value) = lone (pred.IsNull without value)
part_at_pred (Pred-F.Area kind span args) = lone (pred.Area kind span args)
part_at_pred (Pred-F.Chord left right strict n) = lone (pred.Chord left right strict n)

-- a predicate with NOT is one conjunct
abbrev pub part_by_not : Neg → Bool → List Neg → Part Neg
part_by_not whole without parts = record { whole = whole; conjuncts = if without then whole ∷ [] else parts }

-- the conjuncts of a predicate with or without NOT
abbrev pub part_at_neg : Part-F Neg-F → Part Neg
part_at_neg n = part_by_not (roll-Neg (record { not = n.not; pred = n.pred.whole })) n.not n.pred.conjuncts

-- the conjuncts of a conjunction: AND is split
abbrev pub part_at_conj : Part-F Conj-F → Part Conj
part_at_conj c = record {
  whole = roll-Conj (record { first = c.first.whole; rest = map (λ p. p.whole) c.rest });
  conjuncts = c.first.conjuncts ++ flat_map (λ p. p.conjuncts) c.rest;
}

-- the conjuncts of the one part, or an OR of several parts as one conjunct
abbrev pub or_conjuncts : {A : Type 0} → Cond → List Neg → List A → List Neg
or_conjuncts whole parts [] = parts
or_conjuncts whole parts (x ∷ xs) = conjunct (pred.Bracket whole) ∷ []

-- an OR of several parts is not split
abbrev pub part_by_or : {A : Type 0} → Cond → List Neg → List A → Part Cond
part_by_or whole parts rest = record { whole = whole; conjuncts = or_conjuncts whole parts rest }

-- the conjuncts of a condition of one part or of several
abbrev pub part_at_cond : Part-F Cond-F → Part Cond
part_at_cond c =
    part_by_or (roll-Cond (record { first = c.first.whole; rest = map (λ p. p.whole) c.rest })) c.first.conjuncts c.rest

-- a predicate, split
unfoldable pub part_of_pred : Pred → Part Pred
part_of_pred =
    fold-Pred (Part Pred) (Part Cond) (Part Conj) (Part Neg) part_at_pred part_at_cond part_at_conj part_at_neg

-- a condition, split
unfoldable pub part_of_cond : Cond → Part Cond
part_of_cond =
    fold-Cond (Part Pred) (Part Cond) (Part Conj) (Part Neg) part_at_pred part_at_cond part_at_conj part_at_neg

-- a conjunction, split
unfoldable pub part_of_conj : Conj → Part Conj
part_of_conj =
    fold-Conj (Part Pred) (Part Cond) (Part Conj) (Part Neg) part_at_pred part_at_cond part_at_conj part_at_neg

-- a predicate with or without NOT, split
unfoldable pub part_of_neg : Neg → Part Neg
part_of_neg =
    fold-Neg (Part Pred) (Part Cond) (Part Conj) (Part Neg) part_at_pred part_at_cond part_at_conj part_at_neg

-- the conjuncts of a condition
abbrev pub conjuncts : Cond → List Neg
conjuncts c = (part_of_cond c).conjuncts

-- the conjuncts of a conjunction
abbrev pub conjuncts_of_conj : Conj → List Neg
conjuncts_of_conj c = (part_of_conj c).conjuncts

-- the conjuncts of a predicate with or without NOT
abbrev pub conjuncts_of_neg : Neg → List Neg
conjuncts_of_neg n = (part_of_neg n).conjuncts

-- the conjuncts of a predicate
abbrev pub conjuncts_of_pred : Pred → List Neg
conjuncts_of_pred p = (part_of_pred p).conjuncts

-- the conjuncts of WHERE
abbrev pub where_conjuncts : Option Cond → List Neg
where_conjuncts None = []
where_conjuncts (Some c) = conjuncts c
