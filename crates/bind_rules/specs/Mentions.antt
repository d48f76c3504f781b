-- The names that a query mentions, in the order of its text.
use Rattle.std.specs.Prelude.{List, [], ◌∷◌, ◌++◌, map, Option, None, Some}
use Rattle.std.specs.List.{flat_map}
use Rattle.text_rules.specs.Readings.{joined}
use Rattle.sql_tree.specs.declared.cond.Cond.{Cond}
use Rattle.sql_tree.specs.declared.cond.Pred.TheFolds.{fold-Cond}
use Rattle.sql_tree.specs.declared.cond.Pred.TheOpen.{Cond-F, Conj-F, Neg-F, Pred-F}
use Rattle.sql_tree.specs.declared.expr.Atom.TheFolds.{fold-Expr}
use Rattle.sql_tree.specs.declared.expr.Atom.TheOpen.{Atom-F, Expr-F, Factor-F, Prod-F, Signed-F}
use Rattle.sql_tree.specs.declared.expr.Expr.{Expr}
use Rattle.sql_tree.specs.declared.name.Col.{Col}
use Rattle.sql_tree.specs.declared.name.Name.{Name}
use Rattle.sql_tree.specs.declared.query.Item.{Item}
use Rattle.sql_tree.specs.declared.query.ItemKind.{ItemKind}
use Rattle.sql_tree.specs.declared.query.ItemKind.TheVariants as what
use Rattle.sql_tree.specs.declared.query.Query.{Query}
use Rattle.sql_tree.specs.declared.query.Selection.{Selection}
use Rattle.sql_tree.specs.declared.query.Selection.TheVariants as selection
use Rattle.bind_rules.specs.Columns.{tables}

-- A name that a query mentions: a column, a table's name, or a name in a chord test.
pub data Mention : Type 0 where
  Column : Col → Mention
  Table : Name → Mention
  Side : Name → Mention

-- columns
abbrev pub Cols : Type 0
Cols = List Col

-- the columns of an atom
abbrev pub cols_at_atom : Atom-F Cols Cols Cols Cols Cols → Cols
cols_at_atom (Atom-F.Int n) = []
cols_at_atom (Atom-F.Col c) = c ∷ []
cols_at_atom (Atom-F.Bracket e) = e

-- the columns of a sum
abbrev pub cols_at_expr : Expr-F Cols Cols Cols Cols Cols → Cols
cols_at_expr e = e.first ++ joined e.rest

-- the columns of a factor
abbrev pub cols_at_factor : Factor-F Cols Cols Cols Cols Cols → Cols
cols_at_factor f = f.atom

-- the columns of a product
abbrev pub cols_at_prod : Prod-F Cols Cols Cols Cols Cols → Cols
cols_at_prod p = p.first ++ joined p.rest

-- the columns of a later product of a sum
abbrev pub cols_at_signed : Signed-F Cols Cols Cols Cols Cols → Cols
cols_at_signed s = s.prod

-- the columns of an expression
unfoldable pub columns_of : Expr → Cols
columns_of =
    fold-Expr Cols Cols Cols Cols Cols cols_at_atom cols_at_expr cols_at_factor cols_at_prod cols_at_signed

-- mentions
abbrev pub Mentions : Type 0
Mentions = List Mention

-- the columns of an expression, as mentions
abbrev pub mentioned : Expr → Mentions
mentioned e = map Column (columns_of e)

-- the mentions of a predicate
abbrev pub mentions_at_pred : Pred-F Mentions Mentions Mentions Mentions → Mentions
mentions_at_pred (Pred-F.Bracket c) = c
mentions_at_pred (Pred-F.Compare left op right) = mentioned left ++ mentioned right
mentions_at_pred (Pred-F.Between without value low high) = mentioned value ++ mentioned low ++ mentioned high
mentions_at_pred (Pred-F.Among without value list) = mentioned value
mentions_at_pred (Pred-F.IsNull without value) = mentioned value
mentions_at_pred (Pred-F.Area kind span args) = []
mentions_at_pred (Pred-F.Chord left right strict n) = Side left ∷ Side right ∷ []

-- the mentions of a condition, given those of its parts
abbrev pub mentions_at_cond : Cond-F Mentions Mentions Mentions Mentions → Mentions
mentions_at_cond c = c.first ++ joined c.rest

-- the mentions of a conjunction
abbrev pub mentions_at_conj : Conj-F Mentions Mentions Mentions Mentions → Mentions
mentions_at_conj c = c.first ++ joined c.rest

-- the mentions of a predicate with or without NOT
abbrev pub mentions_at_neg : Neg-F Mentions Mentions Mentions Mentions → Mentions
mentions_at_neg n = n.pred

-- the mentions of a condition
unfoldable pub mentions_of_cond : Cond → Mentions
mentions_of_cond =
    fold-Cond Mentions Mentions Mentions Mentions mentions_at_pred mentions_at_cond mentions_at_conj mentions_at_neg

-- the items of a query, without a star
abbrev pub items_of : Selection → List Item
items_of (selection.Star span) = []
items_of (selection.List l) = l.first ∷ l.rest

-- the expression of an item
abbrev pub expr_of : ItemKind → List Expr
expr_of (what.Plain e) = e ∷ []
expr_of what.Count = []
expr_of (what.CountOf e) = e ∷ []
expr_of (what.Sum e) = e ∷ []
expr_of (what.Min e) = e ∷ []
expr_of (what.Max e) = e ∷ []
expr_of (what.Avg e) = e ∷ []

-- the expressions of the items
abbrev pub item_exprs : Query → List Expr
item_exprs q = flat_map (λ i. expr_of i.what) (items_of q.items)

-- the mentions of WHERE
abbrev pub mentions_of_where : Option Cond → Mentions
mentions_of_where None = []
mentions_of_where (Some c) = mentions_of_cond c

-- the mentions of a query in the order of its text, but for the order key
abbrev pub mentions_of : Query → Mentions
mentions_of q =
    flat_map mentioned (item_exprs q) ++ map (λ t. Table t.name) (tables q) ++ mentions_of_where q.cond
    ++ map Column q.group

-- a mention that is a column
abbrev pub column_in : Mention → Cols
column_in (Column c) = c ∷ []
column_in (Table n) = []
column_in (Side n) = []

-- the columns of a query, but for the order key
abbrev pub columns_in : Query → Cols
columns_in q = flat_map column_in (mentions_of q)
