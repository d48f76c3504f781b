-- Whether a query is refused, and why: the first refusal that applies.
use Rattle.std.specs.Prelude.{ℕ, List, Option, None, Some, option_map, Result, Ok, Err}
use Rattle.std.specs.Option.{option_or}
use Rattle.table_rules.specs.Objects.{Obj, Catalogue}
use Rattle.sky_rules.specs.Partition.{Partition}
use Rattle.sql_tree.specs.declared.query.Query.{Query}
use Rattle.sql_rules.specs.Trees.{tree_of}
use Rattle.sql_rules.specs.declared.fault.SqlFault.{SqlFault}
use Rattle.bind_rules.specs.declared.fault.BindFault.{BindFault}
use Rattle.sql_bound.specs.declared.query.Bound.{Bound}
use Rattle.bind_rules.specs.Binding.{bound_of}
use Rattle.answer_rules.specs.Answers.{Answer, flat_answer}
use Rattle.answer_rules.specs.Plans.{radius_refusal}
use Rattle.transcript_rules.specs.declared.refusal.Refusal.{Refusal}
use Rattle.transcript_rules.specs.declared.refusal.Refusal.TheVariants as refusal

-- A query that binds: its tree, and its bound query over the schema.
pub record Understood : Type 0 where
  pub tree : Query
  pub bound : Bound

-- a tree with its bound query, or its first fault over the schema
abbrev pub with_bound : Query → Result Bound BindFault → Result Understood Refusal
with_bound q (Ok b) = Ok (record { tree = q; bound = b })
with_bound q (Err fault) = Err (refusal.Bind fault)

-- a tree with what this binding gives for it, or the fault of a text that has no tree
abbrev pub with_tree_by : (Query → Result Bound BindFault) → Result Query SqlFault → Result Understood Refusal
with_tree_by bind (Ok q) = with_bound q (bind q)
with_tree_by bind (Err fault) = Err (refusal.Sql fault)

-- a tree with its bound query over the schema of these extra columns, or the fault of a text that has no tree
abbrev pub with_tree : List (List ℕ) → Result Query SqlFault → Result Understood Refusal
with_tree names tree = with_tree_by (bound_of names) tree

-- the tree and the bound query of a query's line over the schema of these extra columns, or why there are none
unfoldable pub understood : List (List ℕ) → List ℕ → Result Understood Refusal
understood names text = with_tree names (tree_of text)

-- the refusal before a query is run: why it has no bound query, or the radius of a join whose limit is above that of
-- its chunks
abbrev pub early_by : Partition → List Obj → Result Understood Refusal → Option Refusal
early_by g table (Ok u) = option_map refusal.Radius (radius_refusal g table u.bound)
early_by g table (Err why) = Some why

-- the refusal of a query before it is run: for its grammar, for the schema, or for its radius
unfoldable pub early_refusal : Partition → Catalogue → List ℕ → Option Refusal
early_refusal g c text = early_by g c.objects (understood c.names text)

-- the refusal of an answer that has a total out of range
abbrev pub total_by : Answer → Option Refusal
total_by (Ok rows) = None
total_by (Err total) = Some (refusal.Total (record { total = total }))

-- the refusal of a query that binds for a total: the first one out of range over the whole table
abbrev pub total_refusal_by : List Obj → Result Understood Refusal → Option Refusal
total_refusal_by table (Ok u) = total_by (flat_answer table u.bound)
total_refusal_by table (Err why) = None

-- the refusal of a query for a total out of range
unfoldable pub total_refusal : Catalogue → List ℕ → Option Refusal
total_refusal c text = total_refusal_by c.objects (understood c.names text)

-- the refusal of a query over a sky plan and a catalogue: the first that applies, and none if it has an answer
unfoldable pub refusal_of : Partition → Catalogue → List ℕ → Option Refusal
refusal_of g c text = option_or (early_refusal g c text) (total_refusal c text)
