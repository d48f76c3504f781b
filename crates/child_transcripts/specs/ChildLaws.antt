-- Facts about every transcript over a child table, which `src/laws.rt` proves.
use Rattle.std.specs.Prelude.{◌≡◌, ℕ, ◌+◌, List, ◌++◌, length, Some, Ok, slice_get, codes}
use Rattle.table_rules.specs.Objects.{Catalogue, IsCatalogue}
use Rattle.sky_rules.specs.Partition.{Partition}
use Rattle.source_rules.specs.Sources.{SourceTable, IsSourceTable}
use Rattle.sql_rules.specs.PrintedExprs.{Bytes}
use Rattle.answer_rules.specs.Plans.{plan_of}
use Rattle.child_rules.specs.Children.{IsChild, child_answer}
use Rattle.session_script.specs.Scripts.{query_count}
use Rattle.session_script.specs.Views.{ScriptView, query_lines}
use Rattle.session_rules.specs.declared.end.EndKind.{EndKind}
use Rattle.session_rules.specs.declared.end.EndKind.TheVariants.{Answered, Refused, Cancelled, Spent}
use Rattle.transcript_rules.specs.declared.refusal.Refusal.{Refusal}
use Rattle.transcript_rules.specs.declared.refusal.Refusal.TheVariants.{Sql, Bind, Radius, Total}
use Rattle.transcript_rules.specs.Blocks.{number_line}
use Rattle.transcript_rules.specs.Refusals.{Understood}
use Rattle.transcript_rules.specs.RefusalLines.{line, refusal_line}
use Rattle.transcript_rules.specs.Tables.{headings, table_lines}
use Rattle.child_transcripts.specs.ChildBlocks.{child_block}
use Rattle.child_bind_rules.specs.PairColumns.{schemas_of}
use Rattle.child_transcripts.specs.ChildQueries.{child_refusal, child_understood}
use Rattle.child_transcripts.specs.ChildTranscripts.{ChildFitEnds, child_blocks_of}

-- a query that binds over two tables within their limits can be run
abbrev pub BoundCanBeRun : Type 0
BoundCanBeRun =
    (c : Catalogue) (t : SourceTable) (text : Bytes) (u : Understood) → IsCatalogue c → IsSourceTable t
    → child_understood (schemas_of c.names t.names) text ≡ Ok u → IsChild u.bound

-- the block of a query that binds and ends answered is its answer's table, under the headings of its tree and with the
-- size of its plan
abbrev pub ChildAnsweredIsItsAnswer : Type 0
ChildAnsweredIsItsAnswer =
    (g : Partition) (c : Catalogue) (t : SourceTable) (k : ℕ) (text : Bytes) (u : Understood)
    → child_understood (schemas_of c.names t.names) text ≡ Ok u
    → child_block g c t k text Answered
    ≡ number_line k ++ table_lines (headings c.names u.tree) (child_answer c.objects t.sources u.bound)
    (length (plan_of g c.objects u.bound))

-- the refusal is for the grammar of the query, or for a fault of its binding
abbrev pub IsGrammarOrBinding : Refusal → Type 0
IsGrammarOrBinding (Sql fault) = Unit {0}
IsGrammarOrBinding (Bind fault) = Unit {0}
IsGrammarOrBinding (Radius radius) = ⊥
IsGrammarOrBinding (Total total) = ⊥

-- a child query is refused for its grammar or its binding alone: it has no radius and no total
abbrev pub ChildRefusedBeforeItRuns : Type 0
ChildRefusedBeforeItRuns =
    (c : Catalogue) (t : SourceTable) (text : Bytes) (why : Refusal) → child_refusal (schemas_of c.names t.names) text ≡ Some why
    → IsGrammarOrBinding why

-- the block of a query that is refused and ends refused is the line of its refusal
abbrev pub ChildRefusedIsItsLine : Type 0
ChildRefusedIsItsLine =
    (g : Partition) (c : Catalogue) (t : SourceTable) (k : ℕ) (text : Bytes) (why : Refusal)
    → child_refusal (schemas_of c.names t.names) text ≡ Some why
    → child_block g c t k text Refused ≡ number_line k ++ refusal_line text why

-- the block of a query that ends cancelled is this line, whatever the query is
abbrev pub ChildCancelledIsItsLine : Type 0
ChildCancelledIsItsLine =
    (g : Partition) (c : Catalogue) (t : SourceTable) (k : ℕ) (text : Bytes)
    → child_block g c t k text Cancelled ≡ number_line k ++ line (codes "cancelled")

-- the block of a query that ends out of memory is this line, whatever the query is
abbrev pub ChildSpentIsItsLine : Type 0
ChildSpentIsItsLine =
    (g : Partition) (c : Catalogue) (t : SourceTable) (k : ℕ) (text : Bytes)
    → child_block g c t k text Spent ≡ number_line k ++ line (codes "out of memory")

-- if the ends fit, there is one block for each query
abbrev pub OneChildBlockEach : Type 0
OneChildBlockEach =
    (workers : ℕ) (g : Partition) (c : Catalogue) (t : SourceTable) (s : ScriptView) (ends : List EndKind)
    → ChildFitEnds workers g c t s ends → length (child_blocks_of g c t s ends) ≡ query_count s.steps

-- the blocks are in the order of the script, each that of its query's line and end
abbrev pub ChildBlocksInOrder : Type 0
ChildBlocksInOrder =
    (g : Partition) (c : Catalogue) (t : SourceTable) (s : ScriptView) (ends : List EndKind) (i : ℕ) (text : Bytes)
    (end : EndKind) → slice_get (query_lines s) i ≡ Some text → slice_get ends i ≡ Some end
    → slice_get (child_blocks_of g c t s ends) i ≡ Some (child_block g c t (i + 1) text end)

-- Query i, counted from 0, has this line and this end, and the ends fit.
pub record IsChildEnd (workers : ℕ) (g : Partition) (c : Catalogue) (t : SourceTable) (s : ScriptView)
    (ends : List EndKind) (i : ℕ) (text : Bytes) (end : EndKind) : Type 0 where
  pub fits : ChildFitEnds workers g c t s ends
  pub asked : slice_get (query_lines s) i ≡ Some text
  pub ended : slice_get ends i ≡ Some end

-- The text is the block of a query that is answered: its answer over the two flat tables, and the size of its plan.
pub record IsAnswerBlock (g : Partition) (c : Catalogue) (t : SourceTable) (k : ℕ) (text block_text : Bytes) : Type 0 where
  pub query : Understood
  pub known : child_understood (schemas_of c.names t.names) text ≡ Ok query
  pub shows : block_text
      ≡ number_line k ++ table_lines (headings c.names query.tree) (child_answer c.objects t.sources query.bound)
      (length (plan_of g c.objects query.bound))

-- The text is the block of a query that is refused: the query has this reason, and the text reports it.
pub record IsChildRefusal (g : Partition) (c : Catalogue) (t : SourceTable) (k : ℕ) (text block_text : Bytes)
    : Type 0 where
  pub why : Refusal
  pub refused : child_refusal (schemas_of c.names t.names) text ≡ Some why
  pub shows : block_text ≡ number_line k ++ refusal_line text why

-- a query that ends answered binds, and its block shows its answer
abbrev pub AnsweredShowsItsAnswer : Type 0
AnsweredShowsItsAnswer =
    (workers : ℕ) (g : Partition) (c : Catalogue) (t : SourceTable) (s : ScriptView) (ends : List EndKind) (i : ℕ)
    (text : Bytes) → IsChildEnd workers g c t s ends i text Answered
    → IsAnswerBlock g c t (i + 1) text (child_block g c t (i + 1) text Answered)

-- a query that ends refused has a reason, and its block reports it
abbrev pub RefusedHasItsChildReason : Type 0
RefusedHasItsChildReason =
    (workers : ℕ) (g : Partition) (c : Catalogue) (t : SourceTable) (s : ScriptView) (ends : List EndKind) (i : ℕ)
    (text : Bytes) → IsChildEnd workers g c t s ends i text Refused
    → IsChildRefusal g c t (i + 1) text (child_block g c t (i + 1) text Refused)
