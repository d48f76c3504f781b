-- Expressions as terms: a bound expression without its brackets, its sums and products evaluated from the left.
use Rattle.std.specs.Prelude.{ℤ, List, [], ◌∷◌, Bool, if◌then◌else◌}
use Rattle.sql_bound.specs.declared.expr.BoundCol.{BoundCol}
use Rattle.sql_bound.specs.declared.expr.BoundAtom.{BoundAtom}
use Rattle.sql_bound.specs.declared.expr.BoundExpr.{BoundExpr}
use Rattle.sql_bound.specs.declared.expr.BoundFactor.{BoundFactor}
use Rattle.sql_bound.specs.declared.expr.BoundProd.{BoundProd}
use Rattle.sql_bound.specs.declared.expr.BoundSigned.{BoundSigned}
use Rattle.sql_bound.specs.declared.expr.BoundAtom.TheOpen.{BoundAtom-F, BoundExpr-F, BoundFactor-F}
use Rattle.sql_bound.specs.declared.expr.BoundAtom.TheOpen.{BoundProd-F, BoundSigned-F}
use Rattle.sql_bound.specs.declared.expr.BoundAtom.TheFolds.{fold-BoundAtom, fold-BoundExpr, fold-BoundFactor}
use Rattle.sql_bound.specs.declared.expr.BoundAtom.TheFolds.{fold-BoundProd, fold-BoundSigned}

-- A term: a number, a column, or an operation on terms.
pub data Term : Type 0 where
  Number : ℤ → Term
  Column : BoundCol → Term
  Minus : Term → Term
  Plus : Term → Term → Term
  Less : Term → Term → Term
  Times : Term → Term → Term

-- A term that a sum adds or subtracts.
pub record SignedTerm : Type 0 where
  pub minus : Bool
  pub term : Term

-- the sum of a term and the signed terms that follow it, from the left
abbrev pub sum_from : Term → List SignedTerm → Term
sum_from t [] = t
sum_from t (s ∷ rest) = sum_from (if s.minus then Less t s.term else Plus t s.term) rest

-- the product of a term and the terms that follow it, from the left
abbrev pub product_from : Term → List Term → Term
product_from t [] = t
product_from t (f ∷ rest) = product_from (Times t f) rest

-- the term of an atom: an integer is a number, a column is a column, and brackets are left out
abbrev pub at_atom : BoundAtom-F Term Term Term Term SignedTerm → Term
at_atom (BoundAtom-F.Int n) = Number n
at_atom (BoundAtom-F.Col c) = Column c
at_atom (BoundAtom-F.Bracket e) = e

-- the term of a factor: that of its atom, negated if it has a minus
abbrev pub at_factor : BoundFactor-F Term Term Term Term SignedTerm → Term
at_factor f = if f.minus then Minus f.atom else f.atom

-- the term of a product, from its first factor on
abbrev pub at_prod : BoundProd-F Term Term Term Term SignedTerm → Term
at_prod p = product_from p.first p.rest

-- the term of a signed product, with its sign for the sum
abbrev pub at_signed : BoundSigned-F Term Term Term Term SignedTerm → SignedTerm
at_signed s = record { minus = s.minus; term = s.prod }

-- the term of a sum, from its first product on
abbrev pub at_expr : BoundExpr-F Term Term Term Term SignedTerm → Term
at_expr e = sum_from e.first e.rest

-- the term of an expression
abbrev pub term_of : BoundExpr → Term
term_of = fold-BoundExpr Term Term Term Term SignedTerm at_atom at_expr at_factor at_prod at_signed

-- the term of an atom
abbrev pub term_of_atom : BoundAtom → Term
term_of_atom = fold-BoundAtom Term Term Term Term SignedTerm at_atom at_expr at_factor at_prod at_signed

-- the term of a factor
abbrev pub term_of_factor : BoundFactor → Term
term_of_factor = fold-BoundFactor Term Term Term Term SignedTerm at_atom at_expr at_factor at_prod at_signed

-- the term of a product
abbrev pub term_of_prod : BoundProd → Term
term_of_prod = fold-BoundProd Term Term Term Term SignedTerm at_atom at_expr at_factor at_prod at_signed

-- the term of a signed product, with its sign
abbrev pub term_of_signed : BoundSigned → SignedTerm
term_of_signed = fold-BoundSigned Term Term Term Term SignedTerm at_atom at_expr at_factor at_prod at_signed
