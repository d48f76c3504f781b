-- A tree with all its spans erased, in which a zero in a list of integers has no sign.
use Rattle.std.specs.Prelude.{map, pos, Bool, not, ◌&&◌}
use Rattle.std.specs.Ordering.{int_eq}
use Rattle.std.specs.Option.{option_map}
use Rattle.sql_token.specs.declared.token.Span.{Span}
use Rattle.sql_tree.specs.declared.cond.Cond.{Cond, roll-Cond}
use Rattle.sql_tree.specs.declared.cond.Conj.{Conj, roll-Conj}
use Rattle.sql_tree.specs.declared.cond.IntList.{IntList}
use Rattle.sql_tree.specs.declared.cond.Neg.{Neg, roll-Neg}
use Rattle.sql_tree.specs.declared.cond.Pred.{Pred}
use Rattle.sql_tree.specs.declared.cond.Pred.TheFolds.{fold-Cond, fold-Conj, fold-Neg, fold-Pred}
use Rattle.sql_tree.specs.declared.cond.Pred.TheOpen.{Pred-F}
use Rattle.sql_tree.specs.declared.cond.Pred.TheVariants as pred
use Rattle.sql_tree.specs.declared.cond.SignedInt.{SignedInt}
use Rattle.sql_tree.specs.declared.expr.Atom.{Atom}
use Rattle.sql_tree.specs.declared.expr.Atom.TheFolds.{fold-Atom, fold-Expr, fold-Factor, fold-Prod, fold-Signed}
use Rattle.sql_tree.specs.declared.expr.Atom.TheOpen.{Atom-F}
use Rattle.sql_tree.specs.declared.expr.Atom.TheVariants as atom
use Rattle.sql_tree.specs.declared.expr.Expr.{Expr, roll-Expr}
use Rattle.sql_tree.specs.declared.expr.Factor.{Factor, roll-Factor}
use Rattle.sql_tree.specs.declared.expr.Prod.{Prod, roll-Prod}
use Rattle.sql_tree.specs.declared.expr.Signed.{Signed, roll-Signed}
use Rattle.sql_tree.specs.declared.name.Col.{Col}
use Rattle.sql_tree.specs.declared.name.Name.{Name}
use Rattle.sql_tree.specs.declared.query.Item.{Item}
use Rattle.sql_tree.specs.declared.query.ItemKind.{ItemKind}
use Rattle.sql_tree.specs.declared.query.ItemKind.TheVariants as what
use Rattle.sql_tree.specs.declared.query.OrderBy.{OrderBy}
use Rattle.sql_tree.specs.declared.query.Query.{Query}
use Rattle.sql_tree.specs.declared.query.Selection.{Selection}
use Rattle.sql_tree.specs.declared.query.Selection.TheVariants as selection
use Rattle.sql_tree.specs.declared.query.TableRef.{TableRef}

-- the empty span
abbrev pub nowhere : Span
nowhere = record { from = 0; to = 0 }

-- a name without its span
abbrev pub bare_name : Name → Name
bare_name n = record { text = n.text; span = nowhere }

-- a column without its spans
abbrev pub bare_col : Col → Col
bare_col c = record { table = option_map bare_name c.table; name = bare_name c.name }

-- an atom whose parts are without spans
abbrev pub bare_atom_step : Atom-F Atom Expr Factor Prod Signed → Atom
bare_atom_step (Atom-F.Int n) = atom.Int n
bare_atom_step (Atom-F.Col c) = atom.Col (bare_col c)
bare_atom_step (Atom-F.Bracket e) = atom.Bracket e

-- an atom without spans
unfoldable pub bare_atom : Atom → Atom
bare_atom = fold-Atom Atom Expr Factor Prod Signed bare_atom_step roll-Expr roll-Factor roll-Prod roll-Signed

-- an expression without spans
unfoldable pub bare_expr : Expr → Expr
bare_expr = fold-Expr Atom Expr Factor Prod Signed bare_atom_step roll-Expr roll-Factor roll-Prod roll-Signed

-- a factor without spans
unfoldable pub bare_factor : Factor → Factor
bare_factor = fold-Factor Atom Expr Factor Prod Signed bare_atom_step roll-Expr roll-Factor roll-Prod roll-Signed

-- a product without spans
unfoldable pub bare_prod : Prod → Prod
bare_prod = fold-Prod Atom Expr Factor Prod Signed bare_atom_step roll-Expr roll-Factor roll-Prod roll-Signed

-- a later product of a sum, without spans
unfoldable pub bare_signed : Signed → Signed
bare_signed = fold-Signed Atom Expr Factor Prod Signed bare_atom_step roll-Expr roll-Factor roll-Prod roll-Signed

-- an integer is below zero: a minus precedes it, and it is not zero
abbrev pub is_minus : SignedInt → Bool
is_minus i = i.minus && not (int_eq i.size (pos 0))

-- an integer without the sign of a zero
unfoldable pub bare_int : SignedInt → SignedInt
bare_int i = record { minus = is_minus i; size = i.size }

-- integers without the signs of zeros
abbrev pub bare_ints : IntList → IntList
bare_ints l = record { first = bare_int l.first; rest = map bare_int l.rest }

-- a predicate whose conditions are without spans
abbrev pub bare_pred_step : Pred-F Pred Cond Conj Neg → Pred
bare_pred_step (Pred-F.Bracket c) = pred.Bracket c
bare_pred_step (Pred-F.Compare left op right) = pred.Compare (bare_expr left) op (bare_expr right)
bare_pred_step (Pred-F.Between not value low high) =
    pred.Between not (bare_expr value) (bare_expr low) (bare_expr high)
bare_pred_step (Pred-F.Among without value list) = pred.Among without (bare_expr value) (bare_ints list)
bare_pred_step (Pred-F.IsNull not value) = pred.IsNull not (bare_expr value)
bare_pred_step (Pred-F.Area kind span args) = pred.Area kind nowhere (bare_ints args)
bare_pred_step (Pred-F.Chord left right strict n) = pred.Chord (bare_name left) (bare_name right) strict n

-- a predicate without spans
unfoldable pub bare_pred : Pred → Pred
bare_pred = fold-Pred Pred Cond Conj Neg bare_pred_step roll-Cond roll-Conj roll-Neg

-- a condition without spans
unfoldable pub bare_cond : Cond → Cond
bare_cond = fold-Cond Pred Cond Conj Neg bare_pred_step roll-Cond roll-Conj roll-Neg

-- a conjunction without spans
unfoldable pub bare_conj : Conj → Conj
bare_conj = fold-Conj Pred Cond Conj Neg bare_pred_step roll-Cond roll-Conj roll-Neg

-- a predicate with or without NOT, without spans
unfoldable pub bare_neg : Neg → Neg
bare_neg = fold-Neg Pred Cond Conj Neg bare_pred_step roll-Cond roll-Conj roll-Neg

-- the kind of an item, without spans
abbrev pub bare_kind : ItemKind → ItemKind
bare_kind (what.Plain e) = what.Plain (bare_expr e)
bare_kind what.Count = what.Count
bare_kind (what.CountOf e) = what.CountOf (bare_expr e)
bare_kind (what.Sum e) = what.Sum (bare_expr e)
bare_kind (what.Min e) = what.Min (bare_expr e)
bare_kind (what.Max e) = what.Max (bare_expr e)
bare_kind (what.Avg e) = what.Avg (bare_expr e)

-- an item without spans
abbrev pub bare_item : Item → Item
bare_item i = record { what = bare_kind i.what; alias = option_map bare_name i.alias }

-- the items without spans
abbrev pub bare_items : Selection → Selection
bare_items (selection.Star span) = selection.Star nowhere
bare_items (selection.List l) =
    selection.List (record { first = bare_item l.first; rest = map bare_item l.rest })

-- a table without spans
abbrev pub bare_table : TableRef → TableRef
bare_table t = record { name = bare_name t.name; alias = option_map bare_name t.alias }

-- an order without spans
abbrev pub bare_order : OrderBy → OrderBy
bare_order o = record { key = bare_col o.key; down = o.down }

-- a query without spans
unfoldable pub bare : Query → Query
bare q = record {
  items = bare_items q.items;
  first = bare_table q.first;
  second = option_map bare_table q.second;
  cond = option_map bare_cond q.cond;
  group = map bare_col q.group;
  order = option_map bare_order q.order;
  limit = q.limit;
}
