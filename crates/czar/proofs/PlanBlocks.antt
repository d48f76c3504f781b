-- The block that explains each query of a script, by its plan.
use Rattle.std.proofs.Common.{◌≡◌, ℕ, ◌+◌, List, [], ◌++◌, length, Some, sym, ap, ◌∙◌, slice_get, get_or}
use Rattle.std.proofs.lemmas.Option.{get_or_from_slice_get}
use Rattle.table_rules.specs.Objects.{Catalogue}
use Rattle.sky_rules.specs.Partition.{Partition}
use Rattle.sql_rules.specs.PrintedExprs.{Bytes}
use Rattle.sql_tree.specs.declared.query.Query.{Query}
use Rattle.answer_rules.specs.Rewriting.{rewritten}
use Rattle.answer_rules.specs.declared.rewritten.Rewritten.{Rewritten}
use Rattle.session_script.specs.Scripts.{query_count}
use Rattle.session_script.specs.Views.{ScriptView, query_lines}
use Rattle.transcript_rules.specs.Blocks.{number_line}
use Rattle.transcript_rules.specs.ChunkLines.{chunk_line}
use Rattle.transcript_rules.specs.Explained.{chunks_line, explain_block, explain_blocks_of}
use Rattle.transcript_rules.specs.MergeLines.{merge_line}
use Rattle.transcript_rules.proofs.Blocks.{explained_in_order}
use Rattle.transcript_rules.proofs.Steps.{explained_is_its_plan}
use Rattle.query_ends.proofs.Lines.{one_each}
use Rattle.query_ends.proofs.Zips.{zip_at}
use Rattle.czar.specs.Plans.{ArePlans, IsPlanned, PlanFor}
use Rattle.czar.specs.QueryPlans.{Plan}

-- the three lines of a query, under its number
abbrev three_lines : ℕ → List Bytes → Query → Rewritten → List ℕ → Bytes
three_lines k names head query chunks =
    number_line k ++ (chunk_line names head query.chunk ++ (merge_line query.merge ++ chunks_line chunks))

-- the block that explains a query which can be run is its three lines
pub planned_block : (g : Partition) (c : Catalogue) (k : ℕ) (text : Bytes) (head : Query) (query : Rewritten)
    (chunks : List ℕ) → IsPlanned g c text head query chunks
    → number_line k ++ (chunk_line c.names head query.chunk ++ (merge_line query.merge ++ chunks_line chunks))
    ≡ explain_block g c k text
planned_block g c k text head query chunks is =
    ap (λ q. three_lines k c.names q query chunks) is.tree
    ∙ ap (λ q. three_lines k c.names is.understanding.tree q chunks) is.cut
    ∙ ap (λ cs. three_lines k c.names is.understanding.tree (rewritten is.understanding.bound) cs) is.plan
    ∙ sym (explained_is_its_plan g c k text is.understanding is.known is.accepted)

-- there are as many plans as queries
pub a_plan_each : (g : Partition) (c : Catalogue) (s : ScriptView) (plans : List Plan)
    → ArePlans g c (query_lines s) plans → length plans ≡ query_count s.steps
a_plan_each g c s plans are = one_each (PlanFor g c) s plans are

-- the plan at a place is that of the line there
pub plan_at : (g : Partition) (c : Catalogue) (texts : List Bytes) (plans : List Plan) (i : ℕ) (text : Bytes) (plan : Plan)
    → ArePlans g c texts plans → slice_get texts i ≡ Some text → slice_get plans i ≡ Some plan → PlanFor g c text plan
plan_at g c texts plans i text plan are there planned = zip_at (PlanFor g c) texts plans i text plan are there planned

-- the block at a place is that of the line there
pub explained_there : (g : Partition) (c : Catalogue) (s : ScriptView) (i : ℕ) (text : Bytes)
    → slice_get (query_lines s) i ≡ Some text
    → explain_block g c (i + 1) text ≡ get_or (explain_blocks_of g c s) i []
explained_there g c s i text there =
    sym (get_or_from_slice_get (explain_blocks_of g c s) i (explain_block g c (i + 1) text) []
    (explained_in_order g c s i text there))
