-- Facts about every transcript and every explain text, which `src/laws.rt` proves.
use Rattle.std.specs.Prelude.{◌≡◌, ◌⊎◌, ℕ, ◌+◌, true, false, List, ◌++◌, length, None, Some, Ok, slice_get, codes}
use Rattle.table_rules.specs.Objects.{Catalogue}
use Rattle.sky_rules.specs.Partition.{Partition}
use Rattle.sql_rules.specs.PrintedExprs.{Bytes}
use Rattle.sql_tree.specs.declared.query.Query.{Query}
use Rattle.answer_rules.specs.Answers.{flat_answer}
use Rattle.answer_rules.specs.Plans.{plan_of}
use Rattle.answer_rules.specs.declared.value.Value.{Value}
use Rattle.session_script.specs.Scripts.{query_count}
use Rattle.session_script.specs.Views.{ScriptView, query_lines}
use Rattle.session_rules.specs.Ends.{has_cancel, has_work}
use Rattle.session_rules.specs.declared.end.EndKind.{EndKind}
use Rattle.session_rules.specs.declared.end.EndKind.TheVariants.{Answered, Refused, Cancelled, Spent}
use Rattle.transcript_rules.specs.declared.refusal.Refusal.{Refusal}
use Rattle.transcript_rules.specs.Refusals.{Understood, understood, early_refusal, refusal_of}
use Rattle.transcript_rules.specs.RefusalLines.{line, refusal_line}
use Rattle.transcript_rules.specs.Tables.{headings, table_lines}
use Rattle.transcript_rules.specs.Blocks.{number_line, block}
use Rattle.transcript_rules.specs.Transcripts.{blocks_of, judged_of, FitEnds}
use Rattle.transcript_rules.specs.Explained.{explain_block, explain_blocks_of}

-- Query i, counted from 0, has this line, this end, and this block in a transcript whose ends fit.
pub record IsBlock (workers : ℕ) (g : Partition) (c : Catalogue) (s : ScriptView) (ends : List EndKind) (i : ℕ)
    (text : Bytes) (end : EndKind) (block_text : Bytes) : Type 0 where
  pub fits : FitEnds workers g c s ends
  pub asked : slice_get (query_lines s) i ≡ Some text
  pub ended : slice_get ends i ≡ Some end
  pub stands : slice_get (blocks_of g c s ends) i ≡ Some block_text

-- The text is the line `query K` followed by the rest.
pub record Numbered (k : ℕ) (text : Bytes) : Type 0 where
  pub rest : Bytes
  pub begins : text ≡ number_line k ++ rest

-- The text is the block of a query that is answered: its rows over the flat table, and the size of its plan.
pub record IsTable (g : Partition) (c : Catalogue) (k : ℕ) (text block_text : Bytes) : Type 0 where
  pub query : Understood
  pub known : understood c.names text ≡ Ok query
  pub rows : List (List Value)
  pub answer : flat_answer c.objects query.bound ≡ Ok rows
  pub shows : block_text
      ≡ number_line k ++ table_lines (headings c.names query.tree) rows (length (plan_of g c.objects query.bound))

-- The text is the block of a query that is refused: the query has this reason, and the text reports it.
pub record IsRefusal (g : Partition) (c : Catalogue) (k : ℕ) (text block_text : Bytes) : Type 0 where
  pub why : Refusal
  pub refused : refusal_of g c text ≡ Some why
  pub shows : block_text ≡ number_line k ++ refusal_line text why

-- The texts are the blocks of queries k and n, which are the same but for these numbers.
pub record AreAlike (k n : ℕ) (first second : Bytes) : Type 0 where
  pub rest : Bytes
  pub one : first ≡ number_line k ++ rest
  pub other : second ≡ number_line n ++ rest

-- the text is the block of a query that shows no rows: it is refused for this reason, cancelled, or out of memory
abbrev pub HasNoRows : ℕ → Bytes → Refusal → Bytes → Type 0
HasNoRows k text why block_text =
    (block_text ≡ number_line k ++ refusal_line text why)
    ⊎ (block_text ≡ number_line k ++ line (codes "cancelled"))
    ⊎ (block_text ≡ number_line k ++ line (codes "out of memory"))

-- if the ends fit, there is one block for each query
abbrev pub OneBlockEach : Type 0
OneBlockEach =
    (workers : ℕ) (g : Partition) (c : Catalogue) (s : ScriptView) (ends : List EndKind) → FitEnds workers g c s ends
    → length (blocks_of g c s ends) ≡ query_count s.steps

-- the blocks are in the order of the script, each that of its query's line and end
abbrev pub BlocksInOrder : Type 0
BlocksInOrder =
    (g : Partition) (c : Catalogue) (s : ScriptView) (ends : List EndKind) (i : ℕ) (text : Bytes) (end : EndKind)
    → slice_get (query_lines s) i ≡ Some text → slice_get ends i ≡ Some end
    → slice_get (blocks_of g c s ends) i ≡ Some (block g c (i + 1) text end)

-- each block begins with its number
abbrev pub BlocksAreNumbered : Type 0
BlocksAreNumbered =
    (g : Partition) (c : Catalogue) (k : ℕ) (text : Bytes) (end : EndKind) → Numbered k (block g c k text end)

-- the block of a query that is refused shows no rows
abbrev pub RefusedShowsNoRows : Type 0
RefusedShowsNoRows =
    (workers : ℕ) (g : Partition) (c : Catalogue) (s : ScriptView) (ends : List EndKind) (i : ℕ) (text : Bytes)
    (end : EndKind) (block_text : Bytes) (why : Refusal) → IsBlock workers g c s ends i text end block_text
    → refusal_of g c text ≡ Some why → HasNoRows (i + 1) text why block_text

-- a query that is refused before it is run shows its refusal, whatever the script cancels
abbrev pub EarlyIsTold : Type 0
EarlyIsTold =
    (workers : ℕ) (g : Partition) (c : Catalogue) (s : ScriptView) (ends : List EndKind) (i : ℕ) (text : Bytes)
    (end : EndKind) (block_text : Bytes) (why : Refusal) → IsBlock workers g c s ends i text end block_text
    → early_refusal g c text ≡ Some why → block_text ≡ number_line (i + 1) ++ refusal_line text why

-- a query that ends answered shows its answer
abbrev pub AnsweredShowsItsTable : Type 0
AnsweredShowsItsTable =
    (workers : ℕ) (g : Partition) (c : Catalogue) (s : ScriptView) (ends : List EndKind) (i : ℕ) (text : Bytes)
    (block_text : Bytes) → IsBlock workers g c s ends i text Answered block_text → IsTable g c (i + 1) text block_text

-- a query that ends refused has a reason, which its block reports
abbrev pub RefusedHasItsReason : Type 0
RefusedHasItsReason =
    (workers : ℕ) (g : Partition) (c : Catalogue) (s : ScriptView) (ends : List EndKind) (i : ℕ) (text : Bytes)
    (block_text : Bytes) → IsBlock workers g c s ends i text Refused block_text
    → IsRefusal g c (i + 1) text block_text

-- a query that ends cancelled has chunks to be scanned, and the script cancels it before any wait for it
abbrev pub CancelledIsAskedFor : Type 0
CancelledIsAskedFor =
    (workers : ℕ) (g : Partition) (c : Catalogue) (s : ScriptView) (ends : List EndKind) (i : ℕ) (text : Bytes)
    (block_text : Bytes) → IsBlock workers g c s ends i text Cancelled block_text
    → (has_cancel s.steps (i + 1) ≡ true) × (has_work (judged_of g c text) ≡ true)

-- a query without a refusal, and without a cancel before any wait for it, ends answered, unless it runs out of memory
abbrev pub AnsweredUnlessCancelledOrSpent : Type 0
AnsweredUnlessCancelledOrSpent =
    (workers : ℕ) (g : Partition) (c : Catalogue) (s : ScriptView) (ends : List EndKind) (i : ℕ) (text : Bytes)
    (end : EndKind) (block_text : Bytes) → IsBlock workers g c s ends i text end block_text
    → refusal_of g c text ≡ None → has_cancel s.steps (i + 1) ≡ false → (end ≡ Spent → ⊥) → end ≡ Answered

-- queries with the same line and the same end have the same block, but for its number
abbrev pub EqualQueriesAreAlike : Type 0
EqualQueriesAreAlike =
    (workers : ℕ) (g : Partition) (c : Catalogue) (s : ScriptView) (ends : List EndKind) (i j : ℕ) (text : Bytes)
    (end : EndKind) (first second : Bytes) → IsBlock workers g c s ends i text end first
    → IsBlock workers g c s ends j text end second → AreAlike (i + 1) (j + 1) first second

-- an explain text has one block for each query
abbrev pub OneExplainedEach : Type 0
OneExplainedEach =
    (g : Partition) (c : Catalogue) (s : ScriptView) → length (explain_blocks_of g c s) ≡ query_count s.steps

-- the blocks of an explain text are in the order of the script, each that of its query's line
abbrev pub ExplainedInOrder : Type 0
ExplainedInOrder =
    (g : Partition) (c : Catalogue) (s : ScriptView) (i : ℕ) (text : Bytes) → slice_get (query_lines s) i ≡ Some text
    → slice_get (explain_blocks_of g c s) i ≡ Some (explain_block g c (i + 1) text)
