-- The tests in the order in which a walk over a condition visits them, each with a flag: whether it is a conjunct. Brackets
-- and AND keep the flag, NOT and OR clear it.
use Rattle.std.specs.Prelude.{Bool, true, false, ◌&&◌, not, List, [], ◌∷◌, ◌++◌, map}
use Rattle.sql_tree.specs.declared.cond.Cond.{Cond}
use Rattle.sql_tree.specs.declared.cond.Pred.TheFolds.{fold-Cond}
use Rattle.sql_tree.specs.declared.cond.Pred.TheOpen.{Cond-F, Conj-F, Neg-F, Pred-F}
use Rattle.text_rules.specs.Readings.{joined}
use Rattle.bind_rules.specs.Tops.{Test, Found, found_at, test_at_pred}

-- tests, each with whether it is a conjunct
abbrev pub Founds : Type 0
Founds = List Found

-- the conjuncts stay conjuncts only if this holds
abbrev pub kept_if : Bool → Founds → Founds
kept_if holds = map (λ f. record { test = f.test; top = holds && f.top })

-- no further part follows
abbrev pub is_alone : {A : Type 0} → List A → Bool
is_alone [] = true
is_alone (x ∷ xs) = false

-- the test as a conjunct
abbrev pub at_top : Test → Founds
at_top t = found_at true t ∷ []

-- the tests of a predicate
abbrev pub tests_at_pred : Pred-F Founds Founds Founds Founds → Founds
tests_at_pred (Pred-F.Bracket c) = c
tests_at_pred p = map (found_at true) (test_at_pred p)

-- the tests of a predicate with or without NOT
abbrev pub tests_at_neg : Neg-F Founds Founds Founds Founds → Founds
tests_at_neg n = kept_if (not n.not) n.pred

-- the tests of a conjunction
abbrev pub tests_at_conj : Conj-F Founds Founds Founds Founds → Founds
tests_at_conj c = c.first ++ joined c.rest

-- the tests of a condition, from those of its parts
abbrev pub tests_at_cond : Cond-F Founds Founds Founds Founds → Founds
tests_at_cond c = kept_if (is_alone c.rest) (c.first ++ joined c.rest)

-- the tests of a condition
unfoldable pub tests_of : Cond → Founds
tests_of = fold-Cond Founds Founds Founds Founds tests_at_pred tests_at_cond tests_at_conj tests_at_neg
