-- Lemmas about binding: a query that binds can be run, and its chunk tests are among its conditions.
use Rattle.std.specs.Prelude.{◌≡◌, ℕ, pos, int_le, Bool, true, if◌then◌else◌, List, [], ◌∷◌, ◌++◌, length, All, IsTrue, Option, Some, Ok}
use Rattle.std.specs.List.{list_all, flat_map}
use Rattle.table_rules.specs.Names.{column_names}
use Rattle.table_rules.specs.Objects.{Catalogue}
use Rattle.table_rules.specs.Records.{catalogue_of_records}
use Rattle.sql_bound.specs.declared.area.AreaTest.{AreaTest}
use Rattle.sql_bound.specs.declared.cond.BoundCond.{BoundCond}
use Rattle.sql_bound.specs.declared.query.Bound.{Bound}
use Rattle.sql_tree.specs.declared.cond.Cond.{Cond, out-Cond}
use Rattle.sql_tree.specs.declared.cond.Conj.{Conj, out-Conj}
use Rattle.sql_tree.specs.declared.cond.Neg.{Neg, out-Neg}
use Rattle.sql_tree.specs.declared.cond.Pred.TheVariants as pred
use Rattle.sql_tree.specs.declared.query.Query.{Query}
use Rattle.sql_rules.specs.Trees.{tree_of}
use Rattle.value_rules.specs.Formulas.{Formula, LiesIn, formula_of}
use Rattle.value_rules.specs.Ranges.{IsInRange}
use Rattle.value_rules.specs.Sound.{IsSound, is_sound_limit}
use Rattle.value_rules.specs.Tested.{IsTested}
use Rattle.value_rules.specs.Truth.{truth_of, is_true}
use Rattle.value_rules.specs.Values.{Pick, row, pair}
use Rattle.bind_rules.specs.Binding.{bound_of}
use Rattle.bind_rules.specs.Bounds.{Meaning}
use Rattle.bind_rules.specs.Conjuncts.{conjunct, conjuncts, conjuncts_of_conj, conjuncts_of_neg, conjuncts_of_pred}
use Rattle.bind_rules.specs.Conjuncts.{where_conjuncts}
use Rattle.bind_rules.specs.IdLists.{id_lists}
use Rattle.bind_rules.specs.Tops.{Test, Chord, tests_in}
use Rattle.bind_rules.specs.Truths.{conjunct_truth, where_holds}
use Rattle.bind_rules.specs.Wholes.{bound_cond}

-- the n of a chord test is not below 0
abbrev pub is_count : Test → Bool
is_count (Chord left right strict n) = int_le (pos 0) n
is_count _ = true

-- The limit of a query and the n of its chord tests are not below 0: the grammar has no such numbers there.
pub record HasCounts (q : Query) : Type 0 where
  pub limit : IsTrue (is_sound_limit q.limit)
  pub chords : IsTrue (list_all (λ f. is_count f.test) (tests_in q.cond))

-- the tree of a text has a limit and chord tests that are not below 0
abbrev pub WhatIsReadHasCounts : Type 0
WhatIsReadHasCounts = (text : List ℕ) (q : Query) → tree_of text ≡ Ok q → HasCounts q

-- a bound query can be run over the schema: its columns exist, and no number is too large
abbrev pub BoundIsSound : Type 0
BoundIsSound =
    (names : List (List ℕ)) (q : Query) (b : Bound) → HasCounts q → bound_of names q ≡ Ok b
    → IsSound (length (column_names names)) b

-- the area tests and id tests of a bound query are among its conditions
abbrev pub BoundIsTested : Type 0
BoundIsTested = (names : List (List ℕ)) (q : Query) (b : Bound) → bound_of names q ≡ Ok b → IsTested b

-- the area that a formula tests, if it is an area test
abbrev pub area_in : Formula → List AreaTest
area_in (LiesIn area) = area ∷ []
area_in f = []

-- the area tests of a bound query are exactly those among its conditions, in order
abbrev pub AreasAreConjuncts : Type 0
AreasAreConjuncts =
    (names : List (List ℕ)) (q : Query) (b : Bound) → bound_of names q ≡ Ok b
    → b.areas ≡ flat_map (λ c. area_in (formula_of c)) b.conds

-- the id tests of a bound query are exactly those among its conditions, in order
abbrev pub IdsAreConjuncts : Type 0
IdsAreConjuncts =
    (names : List (List ℕ)) (q : Query) (b : Bound) → bound_of names q ≡ Ok b → b.ids ≡ flat_map id_lists b.conds

-- on each row, and on each pair of rows, of an accepted catalogue each number that a bound query computes is within
-- ±2^100
abbrev pub ValuesAreInRange : Type 0
ValuesAreInRange =
    (records : List (List (List ℕ))) (c : Catalogue) (q : Query) (b : Bound) → catalogue_of_records records ≡ Ok c
    → bound_of c.names q ≡ Ok b
    → All (λ u. IsInRange b (row u) × All (λ v. IsInRange b (pair u v)) c.objects) c.objects

-- ---- the conjuncts of a condition

-- the conjuncts of a bracket are those of its condition
abbrev pub BracketsAreLookedThrough : Type 0
BracketsAreLookedThrough = (c : Cond) → conjuncts_of_pred (pred.Bracket c) ≡ conjuncts c

-- a predicate with NOT is one conjunct, and one without NOT has the conjuncts of its predicate
abbrev pub NotStaysWhole : Type 0
NotStaysWhole =
    (n : Neg) → conjuncts_of_neg n ≡ (if (out-Neg n).not then n ∷ [] else conjuncts_of_pred (out-Neg n).pred)

-- the conjuncts of a conjunction are those of its parts
abbrev pub AndIsTakenApart : Type 0
AndIsTakenApart =
    (c : Conj) → conjuncts_of_conj c
    ≡ conjuncts_of_neg (out-Conj c).first ++ flat_map conjuncts_of_neg (out-Conj c).rest

-- the conjuncts of a condition of one part are those of the part
abbrev pub OnePartIsTakenApart : Type 0
OnePartIsTakenApart = (c : Cond) → (out-Cond c).rest ≡ [] → conjuncts c ≡ conjuncts_of_conj (out-Cond c).first

-- an OR of several parts is not split: it is one conjunct, in brackets
abbrev pub OrStaysWhole : Type 0
OrStaysWhole =
    (c : Cond) (second : Conj) (others : List Conj) → (out-Cond c).rest ≡ second ∷ others
    → conjuncts c ≡ conjunct (pred.Bracket c) ∷ []

-- ---- the truth of the conjuncts

-- WHERE is true of a row or a pair exactly if each of its conjuncts is
abbrev pub WhereIsItsConjuncts : Type 0
WhereIsItsConjuncts =
    (means : Meaning) (p : Pick) (w : Option Cond)
    → where_holds means p w ≡ list_all (λ n. is_true (conjunct_truth means p n)) (where_conjuncts w)

-- a conjunct and the condition that it is bound to have the same truth
abbrev pub BoundConjunctsSayTheSame : Type 0
BoundConjunctsSayTheSame =
    (means : Meaning) (p : Pick) (n : Neg) (c : BoundCond) → bound_cond means n ≡ Some c → truth_of c p ≡ conjunct_truth means p n
