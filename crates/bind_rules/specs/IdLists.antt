-- The id tests among bound conditions: the id of the first table, alone, equal to an integer or in a list of integers.
use Rattle.std.specs.Prelude.{ℤ, Bool, true, false, ◌&&◌, not, if◌then◌else◌, List, [], ◌∷◌, Option, None, Some, nat_eq}
use Rattle.sql_bound.specs.declared.cond.BoundCond.{BoundCond, out-BoundCond}
use Rattle.sql_bound.specs.declared.cond.BoundPred.{BoundPred, out-BoundPred}
use Rattle.sql_bound.specs.declared.cond.BoundPred.TheOpen.{BoundPred-F}
use Rattle.sql_bound.specs.declared.expr.BoundAtom.TheFolds.{fold-BoundExpr}
use Rattle.sql_bound.specs.declared.expr.BoundAtom.TheOpen.{BoundAtom-F, BoundFactor-F}
use Rattle.sql_bound.specs.declared.expr.BoundCol.{BoundCol}
use Rattle.sql_bound.specs.declared.expr.BoundExpr.{BoundExpr}
use Rattle.sql_tree.specs.declared.cond.Cmp.TheVariants as cmp
use Rattle.bind_rules.specs.IdTests.{ids_if}

-- A bound column or an integer.
pub data OneBound : Type 0 where
  OneCol : BoundCol → OneBound
  OneInt : ℤ → OneBound

-- a column or an integer, if a bound expression is one
abbrev pub Single : Type 0
Single = Option OneBound

-- the first part, if nothing follows it
abbrev pub single_first : {A : Type 0} → Single → List A → Single
single_first x [] = x
single_first x (y ∷ ys) = None

-- the column or integer of an atom that is not a bracket
abbrev pub single_at_atom : BoundAtom-F Single Single Single Single Single → Single
single_at_atom (BoundAtom-F.Int n) = Some (OneInt n)
single_at_atom (BoundAtom-F.Col c) = Some (OneCol c)
single_at_atom (BoundAtom-F.Bracket e) = None

-- the column or integer of a factor without a minus
abbrev pub single_at_factor : BoundFactor-F Single Single Single Single Single → Single
single_at_factor f = if f.minus then None else f.atom

-- the column or the integer that a bound expression is, without brackets and minus
unfoldable pub single_of : BoundExpr → Single
single_of =
    fold-BoundExpr Single Single Single Single Single single_at_atom (λ e. single_first e.first e.rest)
    single_at_factor (λ p. single_first p.first p.rest) (λ s. s.prod)

-- the expression is the id of the first row
abbrev pub is_id : Single → Bool
is_id (Some (OneCol c)) = not c.second && nat_eq c.col 0
is_id _ = false

-- the integer, if the expression is one
abbrev pub ints_in : Single → List ℤ
ints_in (Some (OneInt n)) = n ∷ []
ints_in _ = []

-- the ids that a predicate without NOT tests for
abbrev pub id_lists_at : {A B C D : Type 0} → Bool → BoundPred-F A B C D → List (List ℤ)
id_lists_at false (BoundPred-F.Compare left cmp.Equal right) =
    ids_if (is_id (single_of left)) (ints_in (single_of right))
id_lists_at false (BoundPred-F.Among false value list) = ids_if (is_id (single_of value)) list
id_lists_at _ _ = []

-- the ids that a condition tests for, if it is an id test
abbrev pub id_lists : BoundCond → List (List ℤ)
id_lists c = id_lists_at (out-BoundCond c).not (out-BoundPred (out-BoundCond c).pred)
