-- What is known of a line that is understood: its tree, and what that is bound to.
use Rattle.std.proofs.Common.{◌≡◌, refl, subst, List, Result, Ok, Err}
use Rattle.sql_tree.specs.declared.query.Query.{Query}
use Rattle.sql_rules.specs.PrintedExprs.{Bytes}
use Rattle.sql_rules.specs.Trees.{tree_of}
use Rattle.sql_rules.specs.declared.fault.SqlFault.{SqlFault}
use Rattle.sql_bound.specs.declared.query.Bound.{Bound}
use Rattle.bind_rules.specs.Binding.{bound_of}
use Rattle.bind_rules.specs.declared.fault.BindFault.{BindFault}
use Rattle.transcript_rules.specs.Refusals.{Understood, understood, with_tree, with_bound}

same_ok : {F : Type 0} (a b : Understood) (r : Result Understood F) → r ≡ Ok a → r ≡ Ok b → a ≡ b
same_ok a b r e f = cc (e, f)

not_ok : {F : Type 0} (a : Understood) (b : F) (r : Result Understood F) → r ≡ Err b → r ≡ Ok a → ⊥
not_ok a b r e f = absurd (cc (e, f))

-- The tree and the bound query of what is understood.
pub record IsBound (names : List Bytes) (text : Bytes) (u : Understood) : Type 0 where
  pub read : tree_of text ≡ Ok u.tree
  pub bound : bound_of names u.tree ≡ Ok u.bound

by_bound : (names : List Bytes) (text : Bytes) (q : Query) (r : Result Bound BindFault) (u : Understood)
    → tree_of text ≡ Ok q → bound_of names q ≡ r → with_bound q r ≡ Ok u → IsBound names text u
by_bound names text q (Ok b) u read bound e =
    let is : record { tree = q; bound = b } ≡ u = same_ok _ _ (with_bound q (Ok b)) refl e in
    subst (λ (it : Understood). IsBound names text it) is (record { read = read; bound = bound })
by_bound names text q (Err fault) u read bound e = absurd (not_ok _ _ (with_bound q (Err fault)) refl e)

by_tree : (names : List Bytes) (text : Bytes) (r : Result Query SqlFault) (u : Understood) → tree_of text ≡ r
    → with_tree names r ≡ Ok u → IsBound names text u
by_tree names text (Ok q) u read e = by_bound names text q (bound_of names q) u read refl e
by_tree names text (Err fault) u read e = absurd (not_ok _ _ (with_tree names (Err fault)) refl e)

-- a line that is understood has this tree, which is bound so
pub is_bound : (names : List Bytes) (text : Bytes) (u : Understood) → understood names text ≡ Ok u → IsBound names text u
unfolding understood
is_bound names text u known = by_tree names text (tree_of text) u refl known
