-- Texts of worked examples, and their trees.
use Rattle.std.specs.Prelude.{ℕ, List, [], false, None}
use Rattle.std.specs.Prelude.{codes}
use Rattle.sql_tree.specs.declared.expr.Atom.{Atom}
use Rattle.sql_tree.specs.declared.expr.Atom.TheVariants as atom
use Rattle.sql_tree.specs.declared.expr.Expr.{Expr, roll-Expr}
use Rattle.sql_tree.specs.declared.expr.Factor.{roll-Factor}
use Rattle.sql_tree.specs.declared.expr.Prod.{Prod, roll-Prod}
use Rattle.sql_tree.specs.declared.name.Name.{Name}
use Rattle.sql_tree.specs.declared.query.Query.{Query}
use Rattle.sql_tree.specs.declared.query.Selection.TheVariants as selection

-- the name with the given span
abbrev pub name : List ℕ → ℕ → ℕ → Name
name text from to = record { text = text; span = record { from = from; to = to } }

-- the product that is one atom
abbrev pub lone : Atom → Prod
lone a = roll-Prod (record { first = roll-Factor (record { minus = false; atom = a }); rest = [] })

-- the expression that is one atom
abbrev pub alone : Atom → Expr
alone a = roll-Expr (record { first = lone a; rest = [] })

-- the tree of `SELECT * FROM Object`
abbrev pub all_columns : Query
all_columns = record {
  items = selection.Star (record { from = 7; to = 8 });
  first = record { name = name (codes "Object") 14 20; alias = None };
  second = None;
  cond = None;
  group = [];
  order = None;
  limit = None;
}
