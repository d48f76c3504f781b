-- What is gathered from the tests of a condition, one after another.
use Rattle.std.specs.Prelude.{◌≡◌, Bool, true}
use Rattle.std.specs.List.{fold}
use Rattle.sql_tree.specs.declared.cond.Conj.{Conj}
use Rattle.sql_tree.specs.declared.cond.Neg.{Neg}
use Rattle.sql_tree.specs.declared.cond.Pred.{Pred}
use Rattle.sql_tree.specs.declared.cond.Pred.TheFolds.{fold-Conj, fold-Neg, fold-Pred}
use Rattle.bind_rules.specs.Tops.{Test, Area, Chord, Equals, Listed, Found}
use Rattle.query_walks.specs.Walks.{Founds, tests_at_pred, tests_at_cond, tests_at_conj, tests_at_neg}
use Rattle.query_walks.specs.declared.tests_in.TestRef.{TestRef}
use Rattle.query_walks.specs.declared.tests_in.TestRef.TheVariants as seen

-- the tests of a predicate
unfoldable pub tests_of_pred : Pred → Founds
tests_of_pred = fold-Pred Founds Founds Founds Founds tests_at_pred tests_at_cond tests_at_conj tests_at_neg

-- the tests of a predicate with or without NOT
unfoldable pub tests_of_neg : Neg → Founds
tests_of_neg = fold-Neg Founds Founds Founds Founds tests_at_pred tests_at_cond tests_at_conj tests_at_neg

-- the tests of a conjunction
unfoldable pub tests_of_conj : Conj → Founds
tests_of_conj = fold-Conj Founds Founds Founds Founds tests_at_pred tests_at_cond tests_at_conj tests_at_neg

-- the test that is visited
abbrev pub test_of : TestRef → Test
test_of (seen.Area kind span args) = Area kind span args.now
test_of (seen.Chord left right strict n) = Chord left.now right.now strict n.now
test_of (seen.Equals left right) = Equals left.now right.now
test_of (seen.Listed value list) = Listed value.now list.now

-- the test that is visited, at the top or not
abbrev pub found_of : TestRef → Bool → Found
found_of t top = record { test = test_of t; top = top }

-- If nothing is lost afterwards, nothing was lost before, and the new state is the old one after these tests.
pub record Gathers {S : Type 0} (kept : S → Bool) (after : S → Found → S) (old : S) (tests : Founds) (new : S)
    : Type 0 where
  pub so : kept new ≡ true → (kept old ≡ true) × (new ≡ fold after old tests)
