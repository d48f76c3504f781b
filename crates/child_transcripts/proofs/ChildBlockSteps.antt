-- The block of a query over a child table, by its end, and the blocks of a script.
use Rattle.std.proofs.Common.{◌≡◌, refl, sym, ap, ◌∙◌, ℕ, ◌+◌, Bool, true, false, not, ◌&&◌, ◌||◌}
use Rattle.std.proofs.Common.{List, ◌++◌, length, map, zip, Ok, Err, Option, None, Some, Result, option_map, arith}
use Rattle.std.specs.Option.{is_some}
use Rattle.std.specs.Result.{result_err}
use Rattle.std.proofs.lemmas.List.{length-map}
use Rattle.std.proofs.lemmas.Slice.Zip.{length-zip}
use Rattle.std.proofs.lemmas.Option.{slice_get-map}
use Rattle.table_rules.specs.Objects.{Catalogue}
use Rattle.sky_rules.specs.Partition.{Partition}
use Rattle.source_rules.specs.Sources.{SourceTable}
use Rattle.sql_rules.specs.PrintedExprs.{Bytes}
use Rattle.session_script.specs.Scripts.{query_spans}
use Rattle.session_script.specs.Views.{ScriptView, query_lines}
use Rattle.session_script.specs.declared.step.Step.{Step}
use Rattle.session_rules.specs.Ends.{may_end, may_end_from}
use Rattle.session_rules.specs.declared.end.EndKind.{EndKind}
use Rattle.session_rules.specs.declared.end.EndKind.TheVariants.{Answered, Refused}
use Rattle.transcript_rules.specs.declared.refusal.Refusal.{Refusal}
use Rattle.transcript_rules.specs.Blocks.{number_line, refused_lines}
use Rattle.transcript_rules.specs.RefusalLines.{quoted}
use Rattle.transcript_rules.specs.Refusals.{Understood}
use Rattle.transcript_rules.proofs.Blocks.{as_many, as_many_by, by_at, from_one, may_at, split_and, zip_at}
use Rattle.child_transcripts.specs.ChildBlocks.{child_answered_lines, child_block}
use Rattle.child_transcripts.specs.ChildLaws.{AnsweredShowsItsAnswer, ChildAnsweredIsItsAnswer, ChildBlocksInOrder}
use Rattle.child_transcripts.specs.ChildLaws.{ChildCancelledIsItsLine, ChildRefusedIsItsLine, ChildSpentIsItsLine}
use Rattle.child_transcripts.specs.ChildLaws.{IsAnswerBlock, IsChildEnd, IsChildRefusal, OneChildBlockEach}
use Rattle.child_transcripts.specs.ChildLaws.{RefusedHasItsChildReason}
use Rattle.child_bind_rules.specs.PairColumns.{schemas_of}
use Rattle.child_transcripts.specs.ChildQueries.{child_refusal, child_understood}
use Rattle.child_transcripts.specs.ChildTranscripts.{ChildFitEnds, child_blocks_of, child_judged_of}

-- ---- the block of a query

pub child_answered : ChildAnsweredIsItsAnswer
unfolding child_block
child_answered g c t k text u known = ap (λ r. number_line k ++ child_answered_lines g c t r) known

pub child_refused : ChildRefusedIsItsLine
unfolding child_block
child_refused g c t k text why is = ap (λ r. number_line k ++ refused_lines text r) is

pub child_cancelled : ChildCancelledIsItsLine
unfolding child_block
child_cancelled g c t k text = refl

pub child_spent : ChildSpentIsItsLine
unfolding child_block
child_spent g c t k text = refl

-- ---- the blocks of a script

-- the block at an index is that of the query there
pub child_blocks_in_order : ChildBlocksInOrder
child_blocks_in_order g c t s ends i text end there ended =
    by_at (λ k query. child_block g c t k query.0 query.1) 1 i (zip (query_lines s) ends) (text, end)
    (zip_at i (query_lines s) ends text end there ended)
    ∙ ap (λ k. Some (child_block g c t k text end)) (from_one i)

-- there are as many blocks as queries, if there are as many ends
pub as_many_child_blocks : (g : Partition) (c : Catalogue) (t : SourceTable) (s : ScriptView) (ends : List EndKind)
    → length (query_lines s) ≡ length ends → length (child_blocks_of g c t s ends) ≡ length (query_lines s)
as_many_child_blocks g c t s ends h =
    as_many_by (λ k query. child_block g c t k query.0 query.1) 1 (zip (query_lines s) ends)
    ∙ omega (arith, h, length-zip (query_lines s) ends)

-- the ends that fit, each at its place
fits_from : (w : ℕ) (g : Partition) (c : Catalogue) (t : SourceTable) (s : ScriptView) (ends : List EndKind)
    → ChildFitEnds w g c t s ends
    → may_end_from w s.steps 1 (map (child_judged_of g c t) (query_lines s)) ends ≡ true
fits_from w g c t s ends h = (split_and _ _ h).1

pub one_child_block_each : OneChildBlockEach
one_child_block_each w g c t s ends h =
    as_many_child_blocks g c t s ends
    (sym (length-map (query_lines s) (child_judged_of g c t))
    ∙ as_many w s.steps 1 (map (child_judged_of g c t) (query_lines s)) ends (fits_from w g c t s ends h))
    ∙ length-map (query_spans s.steps) (quoted s.text)

-- ---- ends that fit

-- what holds of a query allows its end
may_be : (w : ℕ) (g : Partition) (c : Catalogue) (t : SourceTable) (s : ScriptView) (ends : List EndKind) (i : ℕ)
    (text : Bytes) (end : EndKind) → IsChildEnd w g c t s ends i text end
    → may_end w s.steps (1 + i) (child_judged_of g c t text) end ≡ true
may_be w g c t s ends i text end h =
    may_at w s.steps 1 i (map (child_judged_of g c t) (query_lines s)) ends (child_judged_of g c t text) end
    (fits_from w g c t s ends h.fits)
    (slice_get-map (child_judged_of g c t) (query_lines s) i ∙ ap (option_map (child_judged_of g c t)) h.asked) h.ended

-- a query that may end answered is not refused
none_refused : (a : Option Refusal) (rest : Bool) → (not (is_some a || false) && rest) ≡ true → a ≡ None
none_refused None rest h = refl
none_refused (Some why) rest h = absurd (cc h)

-- a query that is not refused binds
binds : (r : Result Understood Refusal) → result_err r ≡ None → (u : Understood) × (r ≡ Ok u)
binds (Ok u) none = (u, refl)
binds (Err why) none = absurd (cc none)

answered_by : (w : ℕ) (g : Partition) (c : Catalogue) (t : SourceTable) (steps : List Step) (k n : ℕ) (text : Bytes)
    → may_end w steps n (child_judged_of g c t text) Answered ≡ true
    → IsAnswerBlock g c t k text (child_block g c t k text Answered)
unfolding child_judged_of child_refusal
answered_by w g c t steps k n text allowed =
    let is = binds (child_understood (schemas_of c.names t.names) text) (none_refused (child_refusal (schemas_of c.names t.names) text) _ allowed) in
    record { query = is.0; known = is.1; shows = child_answered g c t k text is.0 is.1 }

pub answered_shows_its_answer : AnsweredShowsItsAnswer
answered_shows_its_answer w g c t s ends i text h =
    answered_by w g c t s.steps (i + 1) (1 + i) text (may_be w g c t s ends i text Answered h)

-- a query that may end refused has a reason
some_refused : (a : Option Refusal) (rest : Bool) → ((is_some a || false) && rest) ≡ true
    → (why : Refusal) × (a ≡ Some why)
some_refused (Some why) rest h = (why, refl)
some_refused None rest h = absurd (cc h)

refused_by : (w : ℕ) (g : Partition) (c : Catalogue) (t : SourceTable) (steps : List Step) (k n : ℕ) (text : Bytes)
    → may_end w steps n (child_judged_of g c t text) Refused ≡ true
    → IsChildRefusal g c t k text (child_block g c t k text Refused)
unfolding child_judged_of
refused_by w g c t steps k n text allowed =
    let is = some_refused (child_refusal (schemas_of c.names t.names) text) _ allowed in
    record { why = is.0; refused = is.1; shows = child_refused g c t k text is.0 is.1 }

pub refused_has_its_child_reason : RefusedHasItsChildReason
refused_has_its_child_reason w g c t s ends i text h =
    refused_by w g c t s.steps (i + 1) (1 + i) text (may_be w g c t s ends i text Refused h)
