-- Tests of WHERE that binding treats specially: those among its conjuncts, at the top level, and those inside its other
-- conjuncts.
use Rattle.std.specs.Prelude.{ℤ, Bool, true, false, List, [], ◌∷◌, ◌++◌, map, Option}
use Rattle.std.specs.List.{flat_map}
use Rattle.sql_token.specs.declared.token.Span.{Span}
use Rattle.sql_tree.specs.declared.cond.AreaKind.{AreaKind}
use Rattle.sql_tree.specs.declared.cond.Cmp.TheVariants as cmp
use Rattle.sql_tree.specs.declared.cond.Cond.{Cond}
use Rattle.sql_tree.specs.declared.cond.Conj.{Conj}
use Rattle.sql_tree.specs.declared.cond.IntList.{IntList}
use Rattle.sql_tree.specs.declared.cond.Neg.{Neg, out-Neg}
use Rattle.sql_tree.specs.declared.cond.Pred.{Pred, out-Pred}
use Rattle.sql_tree.specs.declared.cond.Pred.TheFolds.{fold-Neg}
use Rattle.sql_tree.specs.declared.cond.Pred.TheOpen.{Pred-F}
use Rattle.sql_tree.specs.declared.expr.Expr.{Expr}
use Rattle.sql_tree.specs.declared.name.Name.{Name}
use Rattle.bind_rules.specs.Conjuncts.{where_conjuncts}
use Rattle.text_rules.specs.Readings.{joined}

-- An area test, a chord test, an equation, or IN without NOT.
pub data Test : Type 0 where
  Area : AreaKind → Span → IntList → Test
  Chord : Name → Name → (strict : Bool) → ℤ → Test
  Equals : Expr → Expr → Test
  Listed : Expr → IntList → Test

-- tests
abbrev pub Tests : Type 0
Tests = List Test

-- the test that a predicate is
abbrev pub test_at_pred : {A B C D : Type 0} → Pred-F A B C D → Tests
test_at_pred (Pred-F.Bracket c) = []
test_at_pred (Pred-F.Compare left cmp.Equal right) = Equals left right ∷ []
test_at_pred (Pred-F.Compare left op right) = []
test_at_pred (Pred-F.Between without value low high) = []
test_at_pred (Pred-F.Among true value list) = []
test_at_pred (Pred-F.Among false value list) = Listed value list ∷ []
test_at_pred (Pred-F.IsNull without value) = []
test_at_pred (Pred-F.Area kind span args) = Area kind span args ∷ []
test_at_pred (Pred-F.Chord left right strict n) = Chord left right strict n ∷ []

-- ---- tests at the top level

-- the test of a predicate without NOT
abbrev pub test_without : {A B C D : Type 0} → Bool → Pred-F A B C D → Tests
test_without true p = []
test_without false p = test_at_pred p

-- the test that a conjunct is
unfoldable pub test_of : Neg → Tests
test_of n = test_without (out-Neg n).not (out-Pred (out-Neg n).pred)

-- the tests among the conjuncts of WHERE
abbrev pub top_tests : Option Cond → Tests
top_tests w = flat_map test_of (where_conjuncts w)

-- ---- all tests

-- the tests of a predicate, given those of the condition inside it
abbrev pub within_pred : Pred-F Tests Tests Tests Tests → Tests
within_pred (Pred-F.Bracket c) = c
within_pred p = test_at_pred p

-- the tests within a predicate with or without NOT, in the order of the text
unfoldable pub within : Neg → Tests
within =
    fold-Neg Tests Tests Tests Tests within_pred (λ c. c.first ++ joined c.rest) (λ c. c.first ++ joined c.rest)
    (λ n. n.pred)

-- A test, and whether it is a top-level conjunct.
pub record Found : Type 0 where
  pub test : Test
  pub top : Bool

-- a test, marked as at the top level or not
abbrev pub found_at : Bool → Test → Found
found_at top t = record { test = t; top = top }

-- the tests of a conjunct: itself if it is a test, and else the tests inside it
abbrev pub found_by : Tests → Tests → List Found
found_by [] inner = map (found_at false) inner
found_by (t ∷ ts) inner = map (found_at true) (t ∷ ts)

-- the tests of a conjunct
unfoldable pub found_in : Neg → List Found
found_in n = found_by (test_of n) (within n)

-- the tests of WHERE in the order of the text
abbrev pub tests_in : Option Cond → List Found
tests_in w = flat_map found_in (where_conjuncts w)
