-- Inputs of short examples: trees, chunk queries, merges and rows, made by hand.
use Rattle.std.specs.Prelude.{pos, negsuc, true, false, List, [], ◌∷◌, codes, Some, None, Option, ℤ}
use Rattle.sql_bound.specs.Trees.{just}
use Rattle.sql_bound.specs.declared.expr.BoundAtom.TheVariants as bound
use Rattle.sql_bound.specs.declared.expr.BoundCol.{BoundCol}
use Rattle.sql_bound.specs.declared.expr.BoundExpr.{BoundExpr}
use Rattle.sql_bound.specs.declared.query.Shape.TheVariants.{Rows, Pairs, Groups}
use Rattle.sql_tree.specs.declared.cond.Pred.TheVariants as pred
use Rattle.sql_tree.specs.declared.expr.Atom.TheVariants as atom
use Rattle.sql_tree.specs.declared.name.Name.{Name}
use Rattle.sql_tree.specs.declared.query.ItemKind.TheVariants as what
use Rattle.sql_tree.specs.declared.query.Query.{Query}
use Rattle.sql_tree.specs.declared.query.Selection.TheVariants as selection
use Rattle.sql_rules.specs.Examples.{alone}
use Rattle.sql_rules.specs.Examples.{name as named_at}
use Rattle.sql_rules.specs.PrintedExprs.{Bytes}
use Rattle.answer_rules.specs.declared.rewritten.ChunkItem.TheVariants as part
use Rattle.answer_rules.specs.declared.rewritten.ChunkQuery.{ChunkQuery}
use Rattle.answer_rules.specs.declared.rewritten.MergeItem.TheVariants as merged
use Rattle.answer_rules.specs.declared.rewritten.MergeKey.TheVariants.{ChunkKey, Item, Key}
use Rattle.answer_rules.specs.declared.rewritten.MergePlan.{MergePlan}
use Rattle.answer_rules.specs.declared.value.Value.{Value}
use Rattle.answer_rules.specs.declared.value.Value.TheVariants.{Null, Whole, Fixed4}
use Rattle.transcript_rules.specs.Written.{own, item, named, items, called, says, each, some_of, by, query}

-- a name without a span
abbrev pub word : Bytes → Name
word text = named_at text 0 0

-- SELECT a.objectId AS i,b.z FROM Object a,Object b WHERE chord2(a,b)<=9 ORDER BY b.z DESC LIMIT 2
abbrev pub near_by_height : Query
near_by_height =
    query (items (named (what.Plain (alone (atom.Col (own (word (codes "a")) (word (codes "objectId")))))) (word (codes "i")))
    (item (what.Plain (alone (atom.Col (own (word (codes "b")) (word (codes "z")))))) ∷ []))
    (called (word (codes "Object")) (word (codes "a"))) (Some (called (word (codes "Object")) (word (codes "b"))))
    (Some (some_of (each (says (pred.Chord (word (codes "a")) (word (codes "b")) false (pos 9))) []) []))
    [] (by (own (word (codes "b")) (word (codes "z"))) true) (Some (pos 2))

-- SELECT * FROM Object a,Object b
abbrev pub star_of_pairs : Query
star_of_pairs =
    query (selection.Star (record { from = 7; to = 8 })) (called (word (codes "Object")) (word (codes "a")))
    (Some (called (word (codes "Object")) (word (codes "b")))) None [] None None

-- a column of the table, of the first row or the second
abbrev pub col_expr : BoundCol → BoundExpr
col_expr c = just (bound.Col c)

-- the chunk query of the first tree, with this LIMIT
abbrev pub pairs_limited : Option ℤ → ChunkQuery
pairs_limited limit = record {
  shape = Pairs (pos 9);
  items = part.Plain (col_expr (record { second = false; col = 0 })) ∷ part.Plain (col_expr (record { second = true; col = 3 })) ∷ [];
  conds = [];
  order = Some (record { key = col_expr (record { second = true; col = 3 }); down = true });
  limit = limit;
}

-- two items of rows, in descending order of a third column, the first two rows
abbrev pub rows_merged : MergePlan
rows_merged = record {
  shape = Rows;
  items = merged.Column 0 ∷ merged.Column 1 ∷ [];
  order = Some (record { key = ChunkKey; down = true });
  limit = Some (pos 2);
}

-- a count, an average, the least and the greatest of each group of one key, in descending order of the average
abbrev pub groups_merged : MergePlan
groups_merged = record {
  shape = Groups (record { second = false; col = 6 } ∷ []);
  items = merged.Count 0 ∷ merged.Avg 1 2 ∷ merged.Min 3 ∷ merged.Max 4 ∷ [];
  order = Some (record { key = Item 1; down = true });
  limit = None;
}

-- a count of each group of two keys, in the order of the second
abbrev pub keys_merged : MergePlan
keys_merged = record {
  shape = Groups (record { second = false; col = 6 } ∷ record { second = false; col = 4 } ∷ []);
  items = merged.Count 0 ∷ [];
  order = Some (record { key = Key 1; down = false });
  limit = None;
}

-- two rows of a whole number or NULL, and an average
abbrev pub two_rows : List (List Value)
two_rows = (Null ∷ Fixed4 (negsuc 3332) ∷ []) ∷ (Whole (pos 5) ∷ Fixed4 (pos 237500) ∷ []) ∷ []
