-- How the child queries of a script end, by their plans and the ends at the board.
use Rattle.std.proofs.Common.{◌≡◌, ◌∙◌, sym, ap, refl, subst, ℕ, ◌≤◌, arith, false, ◌||◌, List, [], length}
use Rattle.std.proofs.Common.{map, Some, Option, Ok, Err, Result, IfOk, is_some}
use Rattle.std.specs.List.{AllZip}
use Rattle.std.specs.Result.{result_err}
use Rattle.std.proofs.lemmas.List.{length-map}
use Rattle.std.proofs.lemmas.List.FromFn.{length-range_with_len}
use Rattle.std.proofs.lemmas.List.Sums.{count_by-le-length, length-filter}
use Rattle.table_rules.specs.Objects.{IsCatalogue}
use Rattle.sky_io.specs.declared.Memory.{Memory}
use Rattle.sky_rules.specs.Chunks.{all_chunks}
use Rattle.sky_rules.specs.Limits.{IsSky}
use Rattle.sky_rules.specs.Partition.{chunk_count}
use Rattle.source_rules.specs.Sources.{IsSourceTable}
use Rattle.scan_rules.specs.Queries.{Journal, Done, state_of}
use Rattle.sql_bound.specs.declared.query.Bound.{Bound}
use Rattle.sql_rules.specs.PrintedExprs.{Bytes}
use Rattle.sql_tree.specs.declared.query.Query.{Query}
use Rattle.answer_rules.specs.Pieces.{PieceView}
use Rattle.answer_rules.specs.Plans.{is_needed, plan_of}
use Rattle.session_rules.specs.Ends.{is_refused}
use Rattle.session_rules.proofs.Numbers.{same_entry}
use Rattle.session_script.specs.Laws.{NumberedFrom}
use Rattle.session_script.specs.declared.step.Step.{Step}
use Rattle.session_script.specs.Views.{ScriptView, query_lines}
use Rattle.scan_session.specs.Drove.{AreEnds, Drove}
use Rattle.scan_session.specs.KnownEnds.{plan_in}
use Rattle.scan_session.specs.Laws.{AreDriven, IsJudgedBy, ShowsKind}
use Rattle.scan_session.specs.declared.end.End.{End as BoardEnd}
use Rattle.scan_session.specs.declared.end.Planned.{Planned as Attachable}
use Rattle.transcript_rules.specs.Transcripts.{is_idle}
use Rattle.child_rules.specs.declared.bound.ChildBound.{ChildBound}
use Rattle.child_rules.specs.ChildBases.{ChildStands, IsChildBase}
use Rattle.child_rules.specs.ChildPieces.{ChildFor}
use Rattle.child_rules.specs.Children.{IsChild, child_answer, child_answer_in}
use Rattle.child_rules.proofs.Finished.{child_plan_covers}
use Rattle.child_bind_rules.specs.PairColumns.{schemas_of}
use Rattle.child_transcripts.specs.ChildQueries.{child_refusal, child_understood}
use Rattle.child_transcripts.specs.ChildTranscripts.{ChildFitEnds, child_judged_of}
use Rattle.child_transcripts.specs.ChildLaws.{BoundCanBeRun}
use Rattle.query_ends.specs.Attached.{chunks_in, planned_for}
use Rattle.query_ends.specs.Ended.{AreEnded, MayEnd}
use Rattle.query_ends.specs.Ends.{kind_of}
use Rattle.query_ends.specs.States.{AreEndsIn}
use Rattle.query_ends.specs.declared.end.End.{End}
use Rattle.query_ends.specs.declared.end.End.TheVariants as end
use Rattle.query_ends.specs.declared.plan.QueryPlan.{QueryPlan}
use Rattle.query_ends.specs.declared.plan.QueryPlan.TheVariants.{Planned, Refused}
use Rattle.query_ends.proofs.EndsOfPlans.{AreEndsFor, StandsByPlan, ends_for}
use Rattle.query_ends.proofs.ScriptEnds.{Answering, AnswersAreDone, all_done, all_fit, all_in_states, all_may_end, all_shown, none_empty}
use Rattle.child_session.specs.ChildAttached.{child_base_of, child_chunks_planned, first_child_piece}
use Rattle.child_session.specs.ChildDriven.{AnsweredAreDone, IsChildDriven}
use Rattle.child_session.specs.ChildEnded.{IsAnsweredBy, MayAnswerChild}
use Rattle.child_session.specs.ChildEnds.{ChildEndShows, ChildEndsShow}
use Rattle.child_session.specs.ChildPlans.{AreChildPlans, IsChildPlanned}
use Rattle.child_session.specs.ChildQueryPlans.{child_plan_of, child_plans_of}
use Rattle.child_session.specs.declared.plan.ChildPlan.{ChildPlan}
use Rattle.child_session.specs.ChildSurvey.{ChildSurvey}
use Rattle.child_session.proofs.Attaching.{known_under}
use Rattle.child_session.proofs.PlansOfForm.{IsPlanOfLine, all_attached_for, of_lines, planned_at}

-- The plan and both tables are within the limits, and what binds over such tables can be run.
pub record AreLimited (t : ChildSurvey) : Type 0 where
  pub sky : IsSky t.plan
  pub rows : IsCatalogue t.rows
  pub table : IsSourceTable t.table
  pub run : BoundCanBeRun

-- a root without queries
no_queries : (t : ChildSurvey) → AreLimited t → IsChildBase (record { plan = t.plan; rows = t.rows; table = t.table; queries = [] })
no_queries t limits = record {
  sky = limits.sky;
  rows = limits.rows;
  table = limits.table;
  ascend = λ i j d low high. absurd (omega (arith, high));
  from_1 = λ k d low. absurd (omega (arith, low));
  to_255 = λ k d low. absurd (omega (arith, low));
  child = λ k d low. absurd (omega (arith, low));
}

can_run : (t : ChildSurvey) (text : Bytes) (head : Query) (bound : Bound) (chunks : List ℕ) → AreLimited t
    → IsChildPlanned t text head bound chunks → IsChild bound
can_run t text head bound chunks limits is =
    limits.run t.rows t.table text (record { tree = head; bound = bound }) limits.rows limits.table is.known

-- ---- what the pieces of a session represent

-- the piece is that of the child query over these chunks
abbrev pub IsChildPieceOf : ChildSurvey → ChildBound → List ℕ → PieceView → Type 0
IsChildPieceOf t query chunks piece = ChildFor t.plan t.rows.objects t.table.sources query.bound chunks piece

stands_by_plan : (t : ChildSurvey) (plans : List (QueryPlan ChildBound))
    → StandsByPlan (IsChildPieceOf t) (ChildStands (child_base_of t (child_plans_of plans))) plans
stands_by_plan t plans i head query chunks piece there stands =
    let here = planned_at plans i (Planned head query chunks) there in
    let is : stands.query ≡ query = same_entry _ _ (sym stands.known ∙ known_under (child_plans_of plans) i head query chunks here) in
    subst (λ (q : ChildBound). IsChildPieceOf t q chunks piece) is stands.piece

-- ---- the limits of a plan

-- a plan has no more chunks than a sky may have
few : (t : ChildSurvey) (text : Bytes) (head : Query) (bound : Bound) (chunks : List ℕ) → AreLimited t
    → IsChildPlanned t text head bound chunks → length chunks ≤ 16384
few t text head bound chunks limits is =
    let needed = is_needed t.plan t.rows.objects bound in
    let all = all_chunks t.plan in
    let most = limits.sky.few_chunks in
    omega (arith, ap length is.plan, length-filter needed all, count_by-le-length needed all, length-range_with_len 0 (chunk_count t.plan), most)

-- ---- each shows the result of its query

-- the answer over the chunks of a plan is that over the two flat tables
answer_is : (t : ChildSurvey) (text : Bytes) (head : Query) (bound : Bound) (chunks : List ℕ) → AreLimited t
    → IsChildPlanned t text head bound chunks
    → child_answer_in t.plan t.rows.objects t.table.sources bound chunks ≡ child_answer t.rows.objects t.table.sources bound
answer_is t text head bound chunks limits is =
    ap (λ cs. child_answer_in t.plan t.rows.objects t.table.sources bound cs) is.plan
    ∙ child_plan_covers t.plan t.rows.objects t.table.sources bound limits.sky (λ k d low. (limits.rows.rows k d low).at)
    (can_run t text head bound chunks limits is)

shows_answer : (t : ChildSurvey) (text : Bytes) (head : Query) (query : ChildBound) (chunks : List ℕ) (piece : PieceView) (q : End) → AreLimited t
    → IsChildPlanned t text head query.bound chunks → IsChildPieceOf t query chunks piece
    → IsAnsweredBy head query (length chunks) piece q → ChildEndShows t text q
shows_answer t text head query chunks piece (end.Answered tree answer count) limits for is ended = record {
  bound = query.bound;
  known = subst (λ (x : Query). child_understood (schemas_of t.rows.names t.table.names) text ≡ Ok (record { tree = x; bound = query.bound })) (sym ended.0) for.known;
  rows = ended.1 t.plan t.rows.objects t.table.sources chunks limits.rows.ascend limits.table.ascend is
      ∙ answer_is t text head query.bound chunks limits for;
  count = ended.2 ∙ ap length for.plan;
}
shows_answer t text head query chunks piece (end.Refused why) limits for is ended = absurd ended
shows_answer t text head query chunks piece end.Cancelled limits for is ended = absurd ended
shows_answer t text head query chunks piece end.Spent limits for is ended = absurd ended

-- ---- each fits

-- the facts about a query, by its plan
judged_by : (t : ChildSurvey) (text : Bytes) (p : QueryPlan ChildBound) → IsPlanOfLine t text p
    → IsJudgedBy (chunks_in p) (child_judged_of t.plan t.rows t.table text)
unfolding child_judged_of child_refusal
judged_by t text (Planned head query chunks) for = (
  ap (λ r. is_some (result_err r)) for.known,
  ap (is_idle t.plan t.rows.objects) for.known ∙ none_empty (plan_of t.plan t.rows.objects query.bound) chunks for.plan,
)
judged_by t text (Refused why) for = ap is_some for

-- a query that is planned is not refused
not_refused : (t : ChildSurvey) (text : Bytes) (head : Query) (bound : Bound) (chunks : List ℕ) → IsChildPlanned t text head bound chunks
    → is_refused (child_judged_of t.plan t.rows t.table text) ≡ false
unfolding child_judged_of child_refusal
not_refused t text head bound chunks for = ap (λ r. is_some (result_err r) || false) for.known

kind_of_answer : (t : ChildSurvey) (S : Journal) (k : ℕ) (text : Bytes) (head : Query) (query : ChildBound) (chunks : List ℕ) (piece : PieceView)
    (q : End) → IsChildPlanned t text head query.bound chunks → state_of S k ≡ Done → IsAnsweredBy head query (length chunks) piece q
    → ShowsKind S k (Some chunks) (child_judged_of t.plan t.rows t.table text) (kind_of q)
kind_of_answer t S k text head query chunks piece (end.Answered tree answer count) for done ended =
    (done, not_refused t text head query.bound chunks for)
kind_of_answer t S k text head query chunks piece (end.Refused why) for done ended = absurd ended
kind_of_answer t S k text head query chunks piece end.Cancelled for done ended = absurd ended
kind_of_answer t S k text head query chunks piece end.Spent for done ended = absurd ended

-- ---- a session's ends

-- what child queries ensure
answering : (t : ChildSurvey) → AreLimited t
    → Answering (IsChildPieceOf t) MayAnswerChild IsAnsweredBy (IsPlanOfLine t) (ChildEndShows t) (child_judged_of t.plan t.rows t.table)
answering t limits = record {
  may = λ text head query chunks piece for is. (
    record {
      base = record { plan = t.plan; rows = t.rows; table = t.table; queries = [] };
      fits = no_queries t limits;
      child = can_run t text head query.bound chunks limits for;
      chunks = chunks;
      stands = is;
    },
    few t text head query.bound chunks limits for,
  );
  answered = λ text head query chunks piece q for is ended. shows_answer t text head query chunks piece q limits for is ended;
  refused = λ text why for. for;
  cancelled = λ text. tt;
  spent = λ text. tt;
  judged = λ text p for. judged_by t text p for;
  kinds = λ S k text head query chunks piece q for done is ended. kind_of_answer t S k text head query chunks piece q for done ended;
}

-- an answer is the end of a query that is done
answers_are_done : AnswersAreDone IsAnsweredBy
answers_are_done head query n piece (end.Answered tree answer count) ended = record {
  cancelled = (λ e. absurd (cc e), λ e. absurd (cc e));
  spent = (λ e. absurd (cc e), λ e. absurd (cc e));
}
answers_are_done head query n piece (end.Refused why) ended = absurd ended
answers_are_done head query n piece end.Cancelled ended = absurd ended
answers_are_done head query n piece end.Spent ended = absurd ended

-- ---- under any names of the plans and of the ends at the board

same_driven : {workers : ℕ} {t : ChildSurvey} {steps : List Step} {plans same : List (QueryPlan ChildBound)} {seen : Journal}
    {ends given : List (BoardEnd PieceView)} → IsChildDriven workers t steps (child_plans_of plans) seen ends → plans ≡ same → ends ≡ given
    → IsChildDriven workers t steps (child_plans_of same) seen given
same_driven {workers} {t} {steps} {plans} {same} {seen} {ends} {given} d is are =
    subst (λ (l : List (QueryPlan ChildBound)). IsChildDriven workers t steps (child_plans_of l) seen given) is
    (subst (λ (l : List (BoardEnd PieceView)). IsChildDriven workers t steps (child_plans_of plans) seen l) are d)

-- what is planned for the queries, by their plans as those of queries of any form
planned_by_form : {workers : ℕ} {t : ChildSurvey} {steps : List Step} (plans : List (QueryPlan ChildBound)) {seen : Journal}
    {ends : List (BoardEnd PieceView)} → IsChildDriven workers t steps (child_plans_of plans) seen ends
    → AreDriven workers (planned_for first_child_piece plans) steps (chunk_count t.plan) (λ q. planned_for first_child_piece plans) (λ q. seen)
planned_by_form {workers} {t} {steps} plans {seen} {ends} d =
    subst (λ (l : List (Option (Attachable PieceView))). AreDriven workers (plan_in l) steps (chunk_count t.plan) (λ q. plan_in l) (λ q. seen))
    (all_attached_for plans) d.driven

-- the ends at the board, plan by plan
left : {workers : ℕ} {t : ChildSurvey} {steps : List Step} {plans : List (QueryPlan ChildBound)} {seen : Journal}
    {ends : List (BoardEnd PieceView)} → IsChildDriven workers t steps (child_plans_of plans) seen ends
    → AreEndsFor (IsChildPieceOf t) (λ q. seen) plans ends
left {workers} {t} {steps} {plans} {seen} {ends} d =
    let stands = ChildStands (child_base_of t (child_plans_of plans)) in
    ends_for (IsChildPieceOf t) first_child_piece stands (λ q. seen) plans ends (stands_by_plan t plans)
    (d.each ∙ length-map plans child_plan_of)
    (subst (λ (l : List (Option (Attachable PieceView))). AreEnds stands (plan_in l) (λ q. seen) ends) (all_attached_for plans) d.are)

pub may_all_end : (s : ScriptView) {workers : ℕ} {t : ChildSurvey} {all : List ChildPlan} {plans same : List (QueryPlan ChildBound)} {seen : Journal}
    {ends given : List (BoardEnd PieceView)} → IsChildDriven workers t s.steps (child_plans_of plans) seen ends → plans ≡ same → ends ≡ given
    → AreLimited t → child_plans_of same ≡ all → AreChildPlans t (query_lines s) all → AllZip (MayEnd MayAnswerChild) same given
may_all_end s {workers} {t} {all} {plans} {same} {seen} {ends} {given} d is at limits of are =
    let lines = query_lines s in
    let each = of_lines t lines same (subst (λ (l : List ChildPlan). AreChildPlans t lines l) (sym of) are) in
    all_may_end (answering t limits) (λ q. seen) lines same given each (left (same_driven d is at))

-- What the ends of the queries are, if there are ends.
pub record AreEndsOf (workers : ℕ) (t : ChildSurvey) (s : ScriptView) (seen : Journal) (qs : List End) : Type 0 where
  pub fit : ChildFitEnds workers t.plan t.rows t.table s (map kind_of qs)
  pub shown : ChildEndsShow t (query_lines s) qs
  pub states : AreEndsIn (λ q. seen) (map kind_of qs)
  pub done : AnsweredAreDone seen (map kind_of qs)

pub ends_hold : (s : ScriptView) {V : Type 0} {workers : ℕ} {t : ChildSurvey} {all : List ChildPlan} {plans same : List (QueryPlan ChildBound)}
    {seen : Journal} {ends given : List (BoardEnd PieceView)} → IsChildDriven workers t s.steps (child_plans_of plans) seen ends
    → (items : V → List End) (r : Result V Memory) → plans ≡ same → ends ≡ given → NumberedFrom 0 s.steps → AreLimited t
    → child_plans_of same ≡ all → AreChildPlans t (query_lines s) all
    → IfOk r (λ v. AreEnded IsAnsweredBy same given (items v)) → IfOk r (λ v. AreEndsOf workers t s seen (items v))
ends_hold s {V} {workers} {t} {all} {plans} {same} {seen} {ends} {given} d items (Ok v) is at numbered limits of are ended =
    let lines = query_lines s in
    let each = of_lines t lines same (subst (λ (l : List ChildPlan). AreChildPlans t lines l) (sym of) are) in
    let driven = same_driven d is at in
    let form = answering t limits in
    let of_pieces = IsChildPieceOf t in
    record {
      fit = all_fit form (λ q. seen) lines same given each (left driven) first_child_piece (items v) ended workers (chunk_count t.plan) s
          (λ q. planned_for first_child_piece same) refl numbered (planned_by_form same driven);
      shown = all_shown form (λ q. seen) lines same given each (left driven) (items v) ended;
      states = all_in_states of_pieces IsAnsweredBy (λ q. seen) same given (left driven) (items v) ended
          answers_are_done first_child_piece workers (chunk_count t.plan) s.steps (λ q. planned_for first_child_piece same) (planned_by_form same driven);
      done = all_done of_pieces IsAnsweredBy (λ q. seen) same given (left driven) (items v) ended;
    }
ends_hold s {V} {workers} {t} {all} {plans} {same} {seen} {ends} {given} d items (Err m) is at numbered limits of are ended = tt

-- what follows of a value of an Ok result holds if there is one
pub if_so : {V : Type 0} {A B : V → Type 0} (r : Result V Memory) → IfOk r A → ((v : V) → A v → B v) → IfOk r B
if_so (Ok v) a so = so v a
if_so (Err m) a so = tt

-- what the lines of the session show
pub ends_drove : {V : Type 0} {workers : ℕ} {t : ChildSurvey} {steps : List Step} {plans same : List ChildPlan} {seen : Journal}
    {ends : List (BoardEnd PieceView)} → IsChildDriven workers t steps plans seen ends → (r : Result V Memory) → plans ≡ same
    → IfOk r (λ v. Drove workers (child_chunks_planned same) steps seen)
ends_drove {V} {workers} {t} {steps} {plans} {same} {seen} {ends} d (Ok v) is =
    subst (λ (l : List ChildPlan). Drove workers (child_chunks_planned l) steps seen) is (d.driven.drove 0)
ends_drove {V} {workers} {t} {steps} {plans} {same} {seen} {ends} d (Err m) is = tt
