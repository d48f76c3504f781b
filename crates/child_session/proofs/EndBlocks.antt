-- The transcript of a script is the text of its ends.
use Rattle.std.proofs.Common.{◌≡◌, ◌∙◌, sym, ap, ℕ, List, ◌++◌, map}
use Rattle.text_rules.specs.Readings.{joined}
use Rattle.sql_rules.specs.PrintedExprs.{Bytes}
use Rattle.sql_tree.specs.declared.query.Query.{Query}
use Rattle.answer_rules.specs.declared.value.Value.{Value}
use Rattle.session_rules.specs.declared.end.EndKind.TheVariants as kind
use Rattle.session_script.specs.Views.{ScriptView, query_lines}
use Rattle.transcript_rules.specs.Blocks.{number_line}
use Rattle.transcript_rules.specs.Tables.{headings, table_lines}
use Rattle.query_ends.specs.EndTexts.{end_block, end_blocks}
use Rattle.query_ends.specs.Ends.{kind_of}
use Rattle.query_ends.specs.declared.end.End.{End}
use Rattle.query_ends.specs.declared.end.End.TheVariants.{Answered, Refused, Cancelled, Spent}
use Rattle.query_ends.proofs.TextsOfEnds.{same_blocks}
use Rattle.child_rules.specs.Children.{child_answer}
use Rattle.child_transcripts.specs.ChildBlocks.{child_block}
use Rattle.child_transcripts.specs.ChildTranscripts.{child_transcript}
use Rattle.child_transcripts.proofs.ChildBlockSteps.{child_answered, child_cancelled, child_refused, child_spent}
use Rattle.child_session.specs.ChildEnds.{ChildEndShows, ChildEndsShow, IsChildAnswered}
use Rattle.child_session.specs.ChildSurvey.{ChildSurvey}

-- the block of a query that is answered is its table
answered_block : (t : ChildSurvey) (k : ℕ) (text : Bytes) (head : Query) (answer : List (List Value)) (chunks : ℕ)
    → IsChildAnswered t text head answer chunks
    → number_line k ++ table_lines (headings t.rows.names head) answer chunks ≡ child_block t.plan t.rows t.table k text kind.Answered
answered_block t k text head answer chunks is =
    ap (λ rows. number_line k ++ table_lines (headings t.rows.names head) rows chunks) is.rows
    ∙ ap (λ n. number_line k ++ table_lines (headings t.rows.names head) (child_answer t.rows.objects t.table.sources is.bound) n) is.count
    ∙ sym (child_answered t.plan t.rows t.table k text (record { tree = head; bound = is.bound }) is.known)

-- the block of a query is that of its end
same_block : (t : ChildSurvey) (k : ℕ) (text : Bytes) (end : End) → ChildEndShows t text end
    → end_block t.rows.names k text end ≡ child_block t.plan t.rows t.table k text (kind_of end)
same_block t k text (Answered head answer chunks) show = answered_block t k text head answer chunks show
same_block t k text (Refused why) show = sym (child_refused t.plan t.rows t.table k text why show)
same_block t k text Cancelled show = sym (child_cancelled t.plan t.rows t.table k text)
same_block t k text Spent show = sym (child_spent t.plan t.rows t.table k text)

pub same_transcript : (t : ChildSurvey) (s : ScriptView) (ends : List End) → ChildEndsShow t (query_lines s) ends
    → joined (end_blocks t.rows.names s ends) ≡ child_transcript t.plan t.rows t.table s (map kind_of ends)
unfolding child_transcript
same_transcript t s ends show =
    ap joined (same_blocks (child_block t.plan t.rows t.table) t.rows.names (ChildEndShows t) (same_block t) 1 (query_lines s) ends show)
