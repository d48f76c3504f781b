-- The understanding of a query's line.
use Rattle.std.specs.Prelude.{◌≡◌, List, Ok, Err}
use Rattle.sky_io.specs.declared.Stop.{Stop}
use Rattle.sky_io.specs.declared.Stop.TheVariants as stop
use Rattle.sql_rules.specs.declared.fault.SqlFault.{SqlFault}
use Rattle.bind_rules.specs.declared.fault.BindFault.{BindFault}
use Rattle.transcript_rules.specs.declared.refusal.Refusal.TheVariants as refusal
use Rattle.sql_rules.specs.PrintedExprs.{Bytes}
use Rattle.sql_rules.specs.Trees.{tree_of}
use Rattle.sql_tree.specs.declared.query.Query.{Query}
use Rattle.transcript_rules.specs.Refusals.{understood}
use Rattle.czar.specs.declared.understanding.Understanding.{Understanding}
use Rattle.czar.specs.declared.understanding.Understanding.TheVariants.{Known, Unknown}

-- the tree of the line and its bound query over the schema, or the reason for which there is none
abbrev pub IsUnderstanding : List Bytes → Bytes → Understanding → Type 0
IsUnderstanding names text (Known tree bound) = understood names text ≡ Ok (record { tree = tree; bound = bound })
IsUnderstanding names text (Unknown why) = understood names text ≡ Err why

-- this is the understanding of each line that has this tree
pub record IsUnderstandingOf (names : List Bytes) (tree : Query) (it : Understanding) : Type 0 where
  pub each : (text : Bytes) → tree_of text ≡ Ok tree → IsUnderstanding names text it

-- the understanding of a line on which the reader stops with this error: its fault is the refusal
abbrev pub IsUnread : Stop SqlFault → Understanding → Type 0
IsUnread (stop.Bad fault) it = it ≡ Unknown (refusal.Sql fault)
IsUnread stop.Memory it = ⊥

-- the understanding of a tree on which the binder stops with this error: its fault is the refusal
abbrev pub IsUnbound : Stop BindFault → Understanding → Type 0
IsUnbound (stop.Bad fault) it = it ≡ Unknown (refusal.Bind fault)
IsUnbound stop.Memory it = ⊥
