-- Lemmas about binding over objects and their sources: what a query is bound to can be run over their pairs, and its
-- conditions say what its WHERE says.
use Rattle.std.specs.Prelude.{◌≡◌, ◌≤◌, length, Ok}
use Rattle.table_rules.specs.declared.limits.TheConstants.{FURTHER_COLUMNS_MOST}
use Rattle.sql_bound.specs.declared.query.Bound.{Bound}
use Rattle.sql_tree.specs.declared.query.Query.{Query}
use Rattle.value_rules.specs.Truth.{meets}
use Rattle.value_rules.specs.Values.{Pick}
use Rattle.bind_rules.specs.Laws.{HasCounts}
use Rattle.bind_rules.specs.Truths.{where_holds}
use Rattle.child_rules.specs.Children.{IsChild}
use Rattle.child_bind_rules.specs.ChildBinding.{child_bound_of}
use Rattle.child_bind_rules.specs.PairColumns.{Schemas, pair_columns}

-- Neither table has more extra columns than it may have.
pub record AreWithinLimits (s : Schemas) : Type 0 where
  pub objects : length s.objects ≤ FURTHER_COLUMNS_MOST
  pub sources : length s.sources ≤ FURTHER_COLUMNS_MOST

-- what a query is bound to is a child query that can be run
abbrev pub BoundIsChild : Type 0
BoundIsChild =
    (s : Schemas) (q : Query) (b : Bound) → AreWithinLimits s → HasCounts q → child_bound_of s q ≡ Ok b → IsChild b

-- the written WHERE is true of a pair exactly if all conditions of the bound query hold
abbrev pub ChildWhereHoldsAsBound : Type 0
ChildWhereHoldsAsBound =
    (s : Schemas) (q : Query) (b : Bound) (p : Pick) → child_bound_of s q ≡ Ok b
    → where_holds (pair_columns s q) p q.cond ≡ meets b.conds p
