-- Inputs of worked examples: a catalogue, a source table and the trees of child queries, made by hand.
use Rattle.std.specs.Prelude.{[], ◌∷◌, codes, None, Some}
use Rattle.table_rules.specs.Objects.{Catalogue}
use Rattle.source_rules.specs.Sources.{SourceTable}
use Rattle.sql_bound.specs.declared.query.Bound.{Bound}
use Rattle.sql_rules.specs.Examples.{alone, lone}
use Rattle.sql_rules.specs.PrintedExprs.{Bytes}
use Rattle.sql_tree.specs.declared.expr.Atom.{Atom}
use Rattle.sql_tree.specs.declared.expr.Atom.TheVariants as atom
use Rattle.sql_tree.specs.declared.query.ItemKind.TheVariants as what
use Rattle.sql_tree.specs.declared.query.Query.{Query}
use Rattle.answer_rules.specs.Examples.{six}
use Rattle.transcript_rules.specs.Examples.{word}
use Rattle.transcript_rules.specs.Refusals.{Understood}
use Rattle.transcript_rules.specs.Written.{added, called, item, items, less, own, query}
use Rattle.child_rules.specs.ChildExamples.{five_sources}

-- six objects with a flux
abbrev pub six_objects : Catalogue
six_objects = record { names = codes "flux" ∷ []; objects = six }

-- five sources with a flux and a time, of which the last but one has an objectId that no object has
abbrev pub sources_of_six : SourceTable
sources_of_six = record { names = codes "flux" ∷ codes "t" ∷ []; sources = five_sources }

-- a column with its qualifier
abbrev pub column : Bytes → Bytes → Atom
column table name = atom.Col (own (word table) (word name))

-- the tree of SELECT o.objectId,s.sourceId,s.flux-o.flux FROM Object o,Source s; no heading depends on a WHERE
abbrev pub gains_tree : Query
gains_tree =
    query (items (item (what.Plain (alone (column (codes "o") (codes "objectId")))))
    (item (what.Plain (alone (column (codes "s") (codes "sourceId"))))
    ∷ item (what.Plain (added (lone (column (codes "s") (codes "flux"))) (less (lone (column (codes "o") (codes "flux"))) ∷ [])))
    ∷ []))
    (called (word (codes "Object")) (word (codes "o"))) (Some (called (word (codes "Source")) (word (codes "s"))))
    None [] None None

-- the query with this tree and this bound query
abbrev pub gains_by : Bound → Understood
gains_by bound = record { tree = gains_tree; bound = bound }

-- a query that equates columns, but not the two objectIds
abbrev pub not_by_ids : Bytes
not_by_ids = codes "SELECT o.x FROM Object o,Source s WHERE o.x=s.flux"
