-- The form of a query over objects and their sources: `FROM Object o,Source s WHERE o.objectId=s.objectId AND ..`. The
-- equation of the two objectIds is its join condition.
use Rattle.std.specs.Prelude.{ℕ, Bool, true, false, ◌&&◌, ◌||◌, not, if◌then◌else◌, List, [], ◌∷◌, codes, Option, None, Some}
use Rattle.std.specs.List.{flat_map, list_all}
use Rattle.std.specs.Option.{is_some}
use Rattle.std.specs.Str.{bytes_eq}
use Rattle.sql_tree.specs.declared.expr.Expr.{Expr}
use Rattle.sql_tree.specs.declared.name.Col.{Col}
use Rattle.sql_tree.specs.declared.name.Name.{Name}
use Rattle.sql_tree.specs.declared.query.Query.{Query}
use Rattle.sql_tree.specs.declared.query.Selection.{Selection}
use Rattle.sql_tree.specs.declared.query.Selection.TheVariants as selection
use Rattle.sql_tree.specs.declared.query.TableRef.{TableRef}
use Rattle.bind_rules.specs.declared.fault.BindFault.{BindFault}
use Rattle.bind_rules.specs.declared.fault.BindFault.TheVariants as fault
use Rattle.bind_rules.specs.Columns.{is_object_table}
use Rattle.bind_rules.specs.Forms.{chords_of}
use Rattle.bind_rules.specs.IdTests.{is_lone_column, lone_of}
use Rattle.bind_rules.specs.Mentions.{columns_in}
use Rattle.bind_rules.specs.Names.{is_grouped}
use Rattle.bind_rules.specs.Tops.{Test, Equals, top_tests}
use Rattle.child_bind_rules.specs.PairColumns.{is_source_table}

-- both are there and have the same text
abbrev pub is_same_name : Option Name → Option Name → Bool
is_same_name (Some a) (Some b) = bytes_eq a.text b.text
is_same_name _ _ = false

-- the column is written as the objectId of the table with this alias
abbrev pub is_id_of : Option Name → Col → Bool
is_id_of alias c = is_same_name c.table alias && bytes_eq c.name.text (codes "objectId")

-- the one side is the objectId of the one table and the other side that of the other, each alone
abbrev pub equates : Option Name → Option Name → Expr → Expr → Bool
equates a b left right = is_lone_column (is_id_of a) (lone_of left) && is_lone_column (is_id_of b) (lone_of right)

-- the test equates the two objectIds, in either order
abbrev pub is_join_condition : Option Name → Option Name → Test → Bool
is_join_condition o s (Equals left right) = equates o s left right || equates s o left right
is_join_condition o s _ = false

-- the test, if it is a join condition
abbrev pub join_condition_by : Option Name → Option Name → Test → List Test
join_condition_by o s t = if is_join_condition o s t then t ∷ [] else []

-- the list has exactly one element
abbrev pub is_single : {A : Type 0} → List A → Bool
is_single (x ∷ []) = true
is_single _ = false

-- exactly one conjunct of WHERE is a join condition of the tables with these aliases
abbrev pub has_join_condition : Query → Option Name → Option Name → Bool
has_join_condition q o s = is_single (flat_map (join_condition_by o s) (top_tests q.cond))

-- both tables have an alias, and the two differ
abbrev pub have_aliases : Option Name → Option Name → Bool
have_aliases o s = is_some o && is_some s && not (is_same_name o s)

-- the tables are Object and Source, in this order
abbrev pub are_object_and_source : List ℕ → List ℕ → Bool
are_object_and_source first second = is_object_table first && is_source_table second

-- the tables are Object and Source, each with an alias of its own, and have one join condition
abbrev pub are_joined : Query → TableRef → Bool
are_joined q second =
    are_object_and_source q.first.name.text second.name.text && have_aliases q.first.alias second.alias
    && has_join_condition q q.first.alias second.alias

-- the items are listed, without a star
abbrev pub is_listed : Selection → Bool
is_listed (selection.Star span) = false
is_listed (selection.List l) = true

-- the items are listed, and there is no aggregate and no GROUP BY
abbrev pub is_plain_list : Query → Bool
is_plain_list q = is_listed q.items && not (is_grouped q)

-- each column but the order key has a qualifier, and there is no chord test
abbrev pub is_qualified_without_chords : Query → Bool
is_qualified_without_chords q = list_all (λ c. is_some c.table) (columns_in q) && list_all (λ c. false) (chords_of q)

-- the query has the form, given its second table
abbrev pub is_child_form : Query → Option TableRef → Bool
is_child_form q None = false
is_child_form q (Some second) = are_joined q second && is_plain_list q && is_qualified_without_chords q

-- the fault of a query that does not have the form
unfoldable pub child_form : Query → Option BindFault
child_form q = if is_child_form q q.second then None else Some fault.JoinForm
