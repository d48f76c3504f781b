-- What a query that binds over both tables is: its tree and its bound query, which can be run.
use Rattle.std.proofs.Common.{◌≡◌, refl, subst, Ok, Err, Result}
use Rattle.sql_bound.specs.declared.query.Bound.{Bound}
use Rattle.sql_rules.specs.PrintedExprs.{Bytes}
use Rattle.sql_rules.specs.Trees.{tree_of}
use Rattle.sql_rules.specs.declared.fault.SqlFault.{SqlFault}
use Rattle.sql_tree.specs.declared.query.Query.{Query}
use Rattle.bind_rules.specs.declared.fault.BindFault.{BindFault}
use Rattle.bind_rules.proofs.Counts.{what_is_read_has_counts}
use Rattle.transcript_rules.specs.Refusals.{Understood, with_bound, with_tree_by}
use Rattle.child_bind_rules.specs.ChildBinding.{child_bound_of}
use Rattle.child_bind_rules.specs.PairColumns.{Schemas, schemas_of}
use Rattle.child_bind_rules.specs.ChildLaws.{BoundIsChild}
use Rattle.child_transcripts.specs.ChildLaws.{BoundCanBeRun}
use Rattle.child_transcripts.specs.ChildQueries.{child_understood}

same_ok : {F : Type 0} (a b : Understood) (r : Result Understood F) → r ≡ Ok a → r ≡ Ok b → a ≡ b
same_ok a b r e f = cc (e, f)

not_ok : {F : Type 0} (a : Understood) (b : F) (r : Result Understood F) → r ≡ Err b → r ≡ Ok a → ⊥
not_ok a b r e f = absurd (cc (e, f))

-- The tree and the bound query of a line that is understood.
pub record IsChildBound (s : Schemas) (text : Bytes) (u : Understood) : Type 0 where
  pub read : tree_of text ≡ Ok u.tree
  pub bound : child_bound_of s u.tree ≡ Ok u.bound

by_bound : (s : Schemas) (text : Bytes) (q : Query) (r : Result Bound BindFault) (u : Understood) → tree_of text ≡ Ok q
    → child_bound_of s q ≡ r → with_bound q r ≡ Ok u → IsChildBound s text u
by_bound s text q (Ok b) u read bound e =
    let is : record { tree = q; bound = b } ≡ u = same_ok _ _ (with_bound q (Ok b)) refl e in
    subst (λ (it : Understood). IsChildBound s text it) is (record { read = read; bound = bound })
by_bound s text q (Err fault) u read bound e = absurd (not_ok _ _ (with_bound q (Err fault)) refl e)

by_tree : (s : Schemas) (text : Bytes) (r : Result Query SqlFault) (u : Understood) → tree_of text ≡ r
    → with_tree_by (child_bound_of s) r ≡ Ok u → IsChildBound s text u
by_tree s text (Ok q) u read e = by_bound s text q (child_bound_of s q) u read refl e
by_tree s text (Err fault) u read e = absurd (not_ok _ _ (with_tree_by (child_bound_of s) (Err fault)) refl e)

-- a line that is understood has this tree, which is bound so
pub is_child_bound : (s : Schemas) (text : Bytes) (u : Understood) → child_understood s text ≡ Ok u
    → IsChildBound s text u
unfolding child_understood
is_child_bound s text u known = by_tree s text (tree_of text) u refl known

pub can_be_run : BoundIsChild → BoundCanBeRun
can_be_run child c t text u rows sources known =
    let s = schemas_of c.names t.names in
    let b = is_child_bound s text u known in
    child s u.tree u.bound (record { objects = rows.few_names; sources = sources.few_names }) (what_is_read_has_counts text u.tree b.read) b.bound
