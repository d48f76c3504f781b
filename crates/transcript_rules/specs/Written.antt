-- Written queries, made of their parts: builders for the trees of worked examples.
use Rattle.std.specs.Prelude.{ℤ, Bool, true, false, List, Option, None, Some}
use Rattle.sql_tree.specs.declared.cond.Cond.{Cond, roll-Cond}
use Rattle.sql_tree.specs.declared.cond.Conj.{Conj, roll-Conj}
use Rattle.sql_tree.specs.declared.cond.IntList.{IntList}
use Rattle.sql_tree.specs.declared.cond.Neg.{Neg, roll-Neg}
use Rattle.sql_tree.specs.declared.cond.Pred.{Pred}
use Rattle.sql_tree.specs.declared.cond.SignedInt.{SignedInt}
use Rattle.sql_tree.specs.declared.expr.Atom.{Atom}
use Rattle.sql_tree.specs.declared.expr.Expr.{Expr, roll-Expr}
use Rattle.sql_tree.specs.declared.expr.Factor.{Factor, roll-Factor}
use Rattle.sql_tree.specs.declared.expr.Prod.{Prod, roll-Prod}
use Rattle.sql_tree.specs.declared.expr.Signed.{Signed, roll-Signed}
use Rattle.sql_tree.specs.declared.name.Col.{Col}
use Rattle.sql_tree.specs.declared.name.Name.{Name}
use Rattle.sql_tree.specs.declared.query.Item.{Item}
use Rattle.sql_tree.specs.declared.query.ItemKind.{ItemKind}
use Rattle.sql_tree.specs.declared.query.OrderBy.{OrderBy}
use Rattle.sql_tree.specs.declared.query.Query.{Query}
use Rattle.sql_tree.specs.declared.query.Selection.{Selection}
use Rattle.sql_tree.specs.declared.query.Selection.TheVariants as selection
use Rattle.sql_tree.specs.declared.query.TableRef.{TableRef}

-- a column
abbrev pub col : Name → Col
col n = record { table = None; name = n }

-- a column with a qualifier
abbrev pub own : Name → Name → Col
own t n = record { table = Some t; name = n }

-- a factor without a minus
abbrev pub one : Atom → Factor
one a = roll-Factor (record { minus = false; atom = a })

-- a product
abbrev pub times : Factor → List Factor → Prod
times f fs = roll-Prod (record { first = f; rest = fs })

-- a later product that is added
abbrev pub plus : Prod → Signed
plus p = roll-Signed (record { minus = false; prod = p })

-- a later product that is subtracted
abbrev pub less : Prod → Signed
less p = roll-Signed (record { minus = true; prod = p })

-- a sum
abbrev pub added : Prod → List Signed → Expr
added p ps = roll-Expr (record { first = p; rest = ps })

-- an item without an alias
abbrev pub item : ItemKind → Item
item k = record { what = k; alias = None }

-- an item with an alias
abbrev pub named : ItemKind → Name → Item
named k a = record { what = k; alias = Some a }

-- a select list
abbrev pub items : Item → List Item → Selection
items i is = selection.List (record { first = i; rest = is })

-- a table without an alias
abbrev pub table : Name → TableRef
table n = record { name = n; alias = None }

-- a table with an alias
abbrev pub called : Name → Name → TableRef
called n a = record { name = n; alias = Some a }

-- a predicate
abbrev pub says : Pred → Neg
says p = roll-Neg (record { not = false; pred = p })

-- a conjunction
abbrev pub each : Neg → List Neg → Conj
each n ns = roll-Conj (record { first = n; rest = ns })

-- a condition
abbrev pub some_of : Conj → List Conj → Cond
some_of c cs = roll-Cond (record { first = c; rest = cs })

-- an integer as it is written
abbrev pub int : Bool → ℤ → SignedInt
int minus size = record { minus = minus; size = size }

-- a list of integers
abbrev pub ints : SignedInt → List SignedInt → IntList
ints i is = record { first = i; rest = is }

-- an order
abbrev pub by : Col → Bool → Option OrderBy
by c down = Some (record { key = c; down = down })

-- a query
abbrev pub query : Selection → TableRef → Option TableRef → Option Cond → List Col → Option OrderBy → Option ℤ → Query
query items first second cond group order limit = record {
  items = items;
  first = first;
  second = second;
  cond = cond;
  group = group;
  order = order;
  limit = limit;
}
