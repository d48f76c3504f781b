-- The transcript of a script is the text of its ends.
use Rattle.std.proofs.Common.{◌≡◌, ◌∙◌, sym, ap, ℕ, List, ◌++◌, map}
use Rattle.text_rules.specs.Readings.{joined}
use Rattle.table_rules.specs.Objects.{Catalogue}
use Rattle.sky_rules.specs.Partition.{Partition}
use Rattle.sql_rules.specs.PrintedExprs.{Bytes}
use Rattle.sql_tree.specs.declared.query.Query.{Query}
use Rattle.answer_rules.specs.declared.value.Value.{Value}
use Rattle.session_rules.specs.declared.end.EndKind.TheVariants as kind
use Rattle.session_script.specs.Views.{ScriptView, query_lines}
use Rattle.transcript_rules.specs.Blocks.{number_line, block}
use Rattle.transcript_rules.specs.Tables.{headings, table_lines}
use Rattle.transcript_rules.specs.Transcripts.{transcript}
use Rattle.transcript_rules.proofs.Steps.{answered_is_its_table, cancelled_by, refused_by, spent_by}
use Rattle.query_ends.specs.EndTexts.{end_block, end_blocks}
use Rattle.query_ends.specs.Ends.{kind_of}
use Rattle.query_ends.specs.declared.end.End.{End}
use Rattle.query_ends.specs.declared.end.End.TheVariants.{Answered, Refused, Cancelled, Spent}
use Rattle.query_ends.proofs.TextsOfEnds.{same_blocks}
use Rattle.czar.specs.Ends.{EndShows, EndsShow, IsAnswered}

-- the block of a query that is answered is its table
answered_block : (g : Partition) (c : Catalogue) (k : ℕ) (text : Bytes) (head : Query) (table : List (List Value))
    (chunks : ℕ) → IsAnswered g c text head table chunks
    → number_line k ++ table_lines (headings c.names head) table chunks ≡ block g c k text kind.Answered
answered_block g c k text head table chunks is =
    ap (λ q. number_line k ++ table_lines (headings c.names q) table chunks) is.tree
    ∙ ap (λ n. number_line k ++ table_lines (headings c.names is.understanding.tree) table n) is.count
    ∙ sym (answered_is_its_table g c k text is.understanding table is.known is.answer)

-- the block of a query is that of its end
same_block : (g : Partition) (c : Catalogue) (k : ℕ) (text : Bytes) (end : End) → EndShows g c text end
    → end_block c.names k text end ≡ block g c k text (kind_of end)
same_block g c k text (Answered head table chunks) show = answered_block g c k text head table chunks show
same_block g c k text (Refused why) show = sym (refused_by g c k text why show)
same_block g c k text Cancelled show = sym (cancelled_by g c k text)
same_block g c k text Spent show = sym (spent_by g c k text)

pub same_transcript : (g : Partition) (c : Catalogue) (s : ScriptView) (ends : List End) → EndsShow g c (query_lines s) ends
    → joined (end_blocks c.names s ends) ≡ transcript g c s (map kind_of ends)
unfolding transcript
same_transcript g c s ends show =
    ap joined (same_blocks (block g c) c.names (EndShows g c) (same_block g c) 1 (query_lines s) ends show)
