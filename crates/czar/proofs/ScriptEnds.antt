-- How the queries of a script end, by their plans and the ends at the board.
use Rattle.std.proofs.Common.{◌≡◌, ◌∙◌, sym, ap, refl, subst, ℕ, ℤ, true, false, ◌||◌, List, [], ◌∷◌, length, map, Some, Ok, Err, Option, slice_get, Result, IfOk}
use Rattle.std.specs.List.{AllZip}
use Rattle.std.specs.Option.{is_some}
use Rattle.table_rules.specs.Objects.{Catalogue, IsCatalogue}
use Rattle.sky_io.specs.declared.Memory.{Memory}
use Rattle.sky_rules.specs.Limits.{IsSky}
use Rattle.sky_rules.specs.Partition.{Partition, chunk_count}
use Rattle.scan_rules.specs.Queries.{Journal, Done, state_of}
use Rattle.sql_rules.specs.PrintedExprs.{Bytes}
use Rattle.sql_tree.specs.declared.query.Query.{Query}
use Rattle.answer_rules.specs.Answers.{Answer, flat_answer}
use Rattle.answer_rules.specs.Bases.{StandsFor}
use Rattle.answer_rules.specs.Finish.{finished}
use Rattle.answer_rules.specs.Pieces.{PieceFor, PieceView}
use Rattle.answer_rules.specs.Plans.{plan_of}
use Rattle.answer_rules.specs.declared.rewritten.ChunkQuery.{ChunkQuery}
use Rattle.answer_rules.specs.declared.rewritten.Rewritten.{Rewritten}
use Rattle.session_rules.specs.Ends.{is_refused}
use Rattle.session_rules.proofs.Numbers.{same_entry}
use Rattle.session_script.specs.Laws.{NumberedFrom}
use Rattle.session_script.specs.declared.step.Step.{Step}
use Rattle.session_script.specs.Views.{ScriptView, query_lines}
use Rattle.scan_session.specs.Drove.{AreEnds}
use Rattle.scan_session.specs.Laws.{IsJudgedBy, ShowsKind}
use Rattle.scan_session.specs.declared.end.End.{End as BoardEnd}
use Rattle.transcript_rules.specs.Refusals.{total_by, total_refusal, total_refusal_by}
use Rattle.transcript_rules.specs.Transcripts.{FitEnds, is_idle, judged_of}
use Rattle.query_ends.specs.Attached.{chunks_in}
use Rattle.query_ends.specs.Ended.{MayEnd}
use Rattle.query_ends.specs.Ends.{kind_of}
use Rattle.query_ends.specs.declared.end.End.{End}
use Rattle.query_ends.specs.declared.plan.QueryPlan.TheVariants.{Planned, Refused}
use Rattle.query_ends.proofs.EndsOfPlans.{AreEndsFor, StandsByPlan, ends_for}
use Rattle.query_ends.proofs.ScriptEnds.{Answering, all_fit, all_may_end, all_shown, none_empty}
use Rattle.czar.specs.Attached.{base_of, first_object_piece}
use Rattle.czar.specs.Driven.{IsDriven, chunks_planned}
use Rattle.czar.specs.Ended.{AreEnded, IsAnsweredBy, MayAnswerBy, answer_end}
use Rattle.czar.specs.Ends.{EndShows, EndsShow}
use Rattle.czar.specs.Plans.{ArePlans, IsPlanned, PlanFor}
use Rattle.czar.specs.QueryPlans.{Plan}
use Rattle.czar.proofs.Attaching.{known_under}
use Rattle.czar.proofs.Ending.{answered, can_run, few, finished_is, is_answer, is_total, may_finish, out, refused_early, runnable}

-- ---- what the pieces of a session represent

-- the piece is that of the query's chunk query over these chunks
abbrev pub IsPieceOf : Partition → Catalogue → Rewritten → List ℕ → PieceView → Type 0
IsPieceOf g c query chunks piece = PieceFor g c.objects query.chunk chunks piece

stands_by_plan : (g : Partition) (c : Catalogue) (plans : List Plan) → StandsByPlan (IsPieceOf g c) (StandsFor (base_of g c plans)) plans
stands_by_plan g c plans i head query chunks piece there stands =
    let is : stands.query ≡ query.chunk = same_entry _ _ (sym stands.known ∙ known_under plans i head query chunks there) in
    subst (λ (q : ChunkQuery). PieceFor g c.objects q chunks piece) is stands.piece

-- the ends that a session leaves, plan by plan
pub ends_left : (g : Partition) (c : Catalogue) (S : ℕ → Journal) (plans : List Plan) (ends : List (BoardEnd PieceView)) → length ends ≡ length plans
    → AreEnds (StandsFor (base_of g c plans)) (chunks_planned plans) S ends → AreEndsFor (IsPieceOf g c) S plans ends
ends_left g c S plans ends each are =
    ends_for (IsPieceOf g c) first_object_piece (StandsFor (base_of g c plans)) S plans ends (stands_by_plan g c plans) each are

-- ---- each shows the result of its query

shows_answer : (g : Partition) (c : Catalogue) (text : Bytes) (head : Query) (query : Rewritten) (chunks : List ℕ) (piece : PieceView) (r : Answer)
    → IsSky g → IsCatalogue c → IsPlanned g c text head query chunks → PieceFor g c.objects query.chunk chunks piece → finished query.merge piece ≡ r
    → EndShows g c text (answer_end head (length chunks) r)
shows_answer g c text head query chunks piece (Ok table) sky rows for is r =
    answered g c text head query chunks table (is_answer g c query chunks piece table sky rows is r) for
shows_answer g c text head query chunks piece (Err total) sky rows for is r =
    out g c text head query chunks total (is_total g c query chunks piece total sky rows is r) for

-- ---- each fits

-- how the query of a line is judged by its plan
judged_by : (g : Partition) (c : Catalogue) (text : Bytes) (p : Plan) → PlanFor g c text p → IsJudgedBy (chunks_in p) (judged_of g c text)
unfolding judged_of
judged_by g c text (Planned head query chunks) for = (
  ap is_some for.accepted,
  ap (is_idle g c.objects) for.known ∙ none_empty (plan_of g c.objects for.understanding.bound) chunks for.plan,
)
judged_by g c text (Refused why) for = ap is_some for

-- an answer that is in range is not refused, and one that is not is
not_refused : (g : Partition) (c : Catalogue) (text : Bytes) (head : Query) (query : Rewritten) (chunks : List ℕ) (table : _)
    (p : IsPlanned g c text head query chunks) → flat_answer c.objects p.understanding.bound ≡ Ok table → is_refused (judged_of g c text) ≡ false
unfolding judged_of total_refusal
not_refused g c text head query chunks table p answer =
    ap (λ e. is_some e || is_some (total_refusal c text)) p.accepted
    ∙ ap is_some (ap (total_refusal_by c.objects) p.known ∙ ap total_by answer)

is_refused_for : (g : Partition) (c : Catalogue) (text : Bytes) (head : Query) (query : Rewritten) (chunks : List ℕ) (total : ℤ)
    (p : IsPlanned g c text head query chunks) → flat_answer c.objects p.understanding.bound ≡ Err total → is_refused (judged_of g c text) ≡ true
unfolding judged_of total_refusal
is_refused_for g c text head query chunks total p answer =
    ap (λ e. is_some e || is_some (total_refusal c text)) p.accepted
    ∙ ap is_some (ap (total_refusal_by c.objects) p.known ∙ ap total_by answer)

kind_of_answer : (g : Partition) (c : Catalogue) (S : Journal) (k : ℕ) (text : Bytes) (head : Query) (query : Rewritten) (chunks : List ℕ)
    (piece : PieceView) (r : Answer) → IsSky g → IsCatalogue c → IsPlanned g c text head query chunks → state_of S k ≡ Done
    → PieceFor g c.objects query.chunk chunks piece → finished query.merge piece ≡ r
    → ShowsKind S k (Some chunks) (judged_of g c text) (kind_of (answer_end head (length chunks) r))
kind_of_answer g c S k text head query chunks piece (Ok table) sky rows p done is r = (
  done,
  not_refused g c text head query chunks table p
      (sym (finished_is g c p.understanding.bound query chunks piece sky rows (can_run g c text head query chunks p) is) ∙ r),
)
kind_of_answer g c S k text head query chunks piece (Err total) sky rows p done is r = (
  done,
  is_refused_for g c text head query chunks total p
      (sym (finished_is g c p.understanding.bound query chunks piece sky rows (can_run g c text head query chunks p) is) ∙ r),
)

-- ---- a session's ends

-- what queries over the catalogue ensure
answering : (g : Partition) (c : Catalogue) → IsSky g → IsCatalogue c
    → Answering (IsPieceOf g c) MayAnswerBy IsAnsweredBy (PlanFor g c) (EndShows g c) (judged_of g c)
answering g c sky rows = record {
  may = λ text head query chunks piece for is. (
    may_finish g c query chunks piece sky rows (runnable g c head query chunks (record { text = text; is = for })) is,
    few g c head query chunks sky (record { text = text; is = for }),
  );
  answered = λ text head query chunks piece q for is ended. subst (λ (x : End). EndShows g c text x) (sym ended)
      (shows_answer g c text head query chunks piece (finished query.merge piece) sky rows for is refl);
  refused = λ text why for. refused_early g c text why for;
  cancelled = λ text. tt;
  spent = λ text. tt;
  judged = λ text p for. judged_by g c text p for;
  kinds = λ S k text head query chunks piece q for done is ended.
      subst (λ (x : End). ShowsKind S k (Some chunks) (judged_of g c text) (kind_of x)) (sym ended)
      (kind_of_answer g c S k text head query chunks piece (finished query.merge piece) sky rows for done is refl);
}

-- the ends at the board, plan by plan
driven_ends : (workers : ℕ) (g : Partition) (c : Catalogue) (steps : List Step) (plans : List Plan) (ends : List (BoardEnd PieceView))
    (d : IsDriven workers g c steps plans ends) → AreEndsFor (IsPieceOf g c) d.seen plans ends
driven_ends workers g c steps plans ends d = ends_left g c d.seen plans ends d.by.each d.by.are

pub session_may_end : (workers : ℕ) (g : Partition) (c : Catalogue) (s : ScriptView) (plans : List Plan) (ends : List (BoardEnd PieceView))
    → IsSky g → IsCatalogue c → ArePlans g c (query_lines s) plans → IsDriven workers g c s.steps plans ends
    → AllZip (MayEnd MayAnswerBy) plans ends
session_may_end workers g c s plans ends sky rows are d =
    all_may_end (answering g c sky rows) d.seen (query_lines s) plans ends are (driven_ends workers g c s.steps plans ends d)

-- the ends show the results of the queries
pub ends_show : {V : Type 0} (workers : ℕ) (g : Partition) (c : Catalogue) (s : ScriptView) (plans : List Plan) (ends : List (BoardEnd PieceView))
    (items : V → List End) (r : Result V Memory) → IsSky g → IsCatalogue c → ArePlans g c (query_lines s) plans
    → IsDriven workers g c s.steps plans ends → IfOk r (λ v. AreEnded plans ends (items v)) → IfOk r (λ v. EndsShow g c (query_lines s) (items v))
ends_show workers g c s plans ends items (Ok v) sky rows are d ended =
    all_shown (answering g c sky rows) d.seen (query_lines s) plans ends are (driven_ends workers g c s.steps plans ends d) (items v) ended
ends_show workers g c s plans ends items (Err m) sky rows are d ended = tt

-- and they fit the script
pub ends_fit : {V : Type 0} (workers : ℕ) (g : Partition) (c : Catalogue) (s : ScriptView) (plans : List Plan) (ends : List (BoardEnd PieceView))
    (items : V → List End) (r : Result V Memory) → IsSky g → IsCatalogue c → NumberedFrom 0 s.steps → ArePlans g c (query_lines s) plans
    → IsDriven workers g c s.steps plans ends → IfOk r (λ v. AreEnded plans ends (items v))
    → IfOk r (λ v. FitEnds workers g c s (map kind_of (items v)))
ends_fit workers g c s plans ends items (Ok v) sky rows numbered are d ended =
    all_fit (answering g c sky rows) d.seen (query_lines s) plans ends are (driven_ends workers g c s.steps plans ends d)
    first_object_piece (items v) ended workers (chunk_count g) s d.of_board refl numbered d.by.driven
ends_fit workers g c s plans ends items (Err m) sky rows numbered are d ended = tt
