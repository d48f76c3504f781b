-- The journal of a session that is over is a trace of its script.
use Rattle.std.proofs.Common.{◌≡◌, ◌∙◌, sym, ap, refl, subst, ℕ, zero, suc, arith, List, [], ◌∷◌, map, get_or, None, Some, Ok, Err, option_map, is_some}
use Rattle.std.specs.Prelude.{if◌then◌else◌}
use Rattle.table_rules.specs.Objects.{Catalogue}
use Rattle.sky_rules.specs.Partition.{Partition, chunk_count}
use Rattle.scan_rules.specs.Lines.{closes}
use Rattle.scan_rules.specs.Queries.{Journal, Done}
use Rattle.scan_rules.specs.declared.journal.Journal.{Journal as BoardJournal}
use Rattle.scan_rules.proofs.Lengths.{closed_once}
use Rattle.scan_rules.proofs.Lists.{some_counted}
use Rattle.sql_rules.specs.PrintedExprs.{Bytes}
use Rattle.answer_rules.specs.Answers.{Answer}
use Rattle.answer_rules.specs.Bases.{Base}
use Rattle.answer_rules.specs.Finish.{finished}
use Rattle.answer_rules.specs.Pieces.{PieceView}
use Rattle.session_script.specs.Views.{ScriptView, query_lines}
use Rattle.session_script.specs.declared.step.Step.{Step}
use Rattle.scan_board.specs.Calls.{BoardSeat}
use Rattle.scan_session.specs.Drove.{Drove}
use Rattle.scan_session.specs.KnownEnds.{plan_in}
use Rattle.scan_session.specs.Plans.{Plans}
use Rattle.scan_session.specs.declared.end.End.{End as BoardEnd}
use Rattle.transcript_rules.specs.Refusals.{understood}
use Rattle.query_ends.specs.Ends.{kind_of}
use Rattle.query_ends.specs.States.{AreEndsIn, IsEndIn}
use Rattle.query_ends.specs.declared.end.End.{End}
use Rattle.query_ends.specs.declared.plan.QueryPlan.TheVariants.{Planned, Refused}
use Rattle.query_ends.proofs.ScriptEnds.{AnswersAreDone, all_in_states}
use Rattle.czar.specs.Attached.{attached, first_object_piece}
use Rattle.czar.specs.Driven.{IsDrivenBy, IsOver}
use Rattle.czar.specs.Ended.{AreEnded, IsAnsweredBy, answer_end}
use Rattle.czar.specs.Plans.{ArePlans, PlanFor}
use Rattle.czar.specs.QueryPlans.{Plan}
use Rattle.czar.specs.Traces.{IsTraceOf, chunks_needed, planned_chunks, plans_of}
use Rattle.czar.proofs.ScriptEnds.{IsPieceOf, ends_left}

-- ---- what is attached for a script is what is planned for its lines

planned_line : (g : Partition) (c : Catalogue) (text : Bytes) (p : Plan) → PlanFor g c text p
    → option_map (λ x. x.chunks) (attached p) ≡ planned_chunks g c text
planned_line g c text (Planned head query chunks) is =
    ap Some is.plan
    ∙ sym (ap (λ e. if is_some e then None else chunks_needed g c.objects (understood c.names text)) is.accepted
    ∙ ap (chunks_needed g c.objects) is.known)
planned_line g c text (Refused why) is =
    sym (ap (λ e. if is_some e then None else chunks_needed g c.objects (understood c.names text)) is)

planned_lines : (g : Partition) (c : Catalogue) (texts : List Bytes) (plans : List Plan) (i : ℕ) → ArePlans g c texts plans
    → option_map (λ x. x.chunks) (get_or (map attached plans) i None) ≡ get_or (map (planned_chunks g c) texts) i None
planned_lines g c [] [] i are = refl
planned_lines g c [] (p ∷ plans) i are = absurd are
planned_lines g c (t ∷ texts) [] i are = absurd are
planned_lines g c (t ∷ texts) (p ∷ plans) zero are = planned_line g c t p are.0
planned_lines g c (t ∷ texts) (p ∷ plans) (suc i) are = planned_lines g c texts plans i are.1

same_plan : (g : Partition) (c : Catalogue) (texts : List Bytes) (plans : List Plan) (q : ℕ) → ArePlans g c texts plans
    → plan_in (map attached plans) q ≡ plans_of g c texts q
same_plan g c texts plans zero are = refl
same_plan g c texts plans (suc i) are = planned_lines g c texts plans i are

same_plans : (g : Partition) (c : Catalogue) (texts : List Bytes) (plans : List Plan) → ArePlans g c texts plans
    → ◌≡◌ {A = Plans} (plan_in (map attached plans)) (plans_of g c texts)
same_plans g c texts plans are = λ k q. same_plan g c texts plans q are k

-- ---- the ends are in the states of the journal

-- an answer, or a total out of range, is the end of a query that is done
answers_are_done : AnswersAreDone IsAnsweredBy
answers_are_done head query n piece q ended =
    subst (λ (x : End). IsEndIn Done (kind_of x)) (sym ended) (of_answer (finished query.merge piece))
  where
    of_answer : (r : Answer) → IsEndIn Done (kind_of (answer_end head n r))
    of_answer (Ok table) = record {
      cancelled = (λ e. absurd (cc e), λ s. absurd (cc s));
      spent = (λ e. absurd (cc e), λ s. absurd (cc s));
    }
    of_answer (Err total) = record {
      cancelled = (λ e. absurd (cc e), λ s. absurd (cc s));
      spent = (λ e. absurd (cc e), λ s. absurd (cc s));
    }

-- the ends of a session's queries are in the states of the journals of their boards
pub session_ends_in : {workers : ℕ} {g : Partition} {c : Catalogue} {steps : List Step} {plans : List Plan} {of_board : ℕ → Plans}
    {seen : ℕ → Journal} {ends : List (BoardEnd PieceView)} (query_ends : List End) → IsDrivenBy workers g c steps plans of_board seen ends
    → AreEnded plans ends query_ends → AreEndsIn seen (map kind_of query_ends)
session_ends_in {workers} {g} {c} {steps} {plans} {of_board} {seen} {ends} query_ends d ended =
    all_in_states (IsPieceOf g c) IsAnsweredBy seen plans ends (ends_left g c seen plans ends d.each d.are) query_ends ended
    answers_are_done first_object_piece workers (chunk_count g) steps of_board d.driven

-- ---- the trace

pub session_traces : (workers : ℕ) (g : Partition) (c : Catalogue) (s : ScriptView) (plans : List Plan)
    (ends : List (BoardEnd PieceView)) (qs : List End) (seen : Journal) (journal : BoardJournal) → ArePlans g c (query_lines s) plans
    → IsDrivenBy workers g c s.steps plans (λ q. plan_in (map attached plans)) (λ q. seen) ends → AreEnded plans ends qs
    → journal ≡ record { ring = chunk_count g; lines = seen }
    → IsTraceOf workers g c s (map kind_of qs) journal
session_traces workers g c s plans ends qs seen journal are d ended is =
    subst (λ (j : BoardJournal). IsTraceOf workers g c s (map kind_of qs) j) (sym is) (record {
      ring = refl;
      right = d.driven.run 0;
      drove = subst (λ (p : Plans). Drove workers p s.steps seen) (same_plans g c (query_lines s) plans are) (d.driven.drove 0);
      closed = omega (arith, closed_once seen (d.driven.run 0), some_counted closes seen (d.driven.drove 0).closed);
      states = session_ends_in qs d ended;
    })

-- so under any names of the plans, the ends at the board and the lines that were seen
pub ends_trace : {workers : ℕ} {g : Partition} {c : Catalogue} {s : ScriptView} {plans same : List Plan}
    {seat : BoardSeat Base} {ends at_board : List (BoardEnd PieceView)} {seen : Journal} {journal : BoardJournal} (query_ends : List End)
    → ArePlans g c (query_lines s) plans
    → IsOver workers g c s.steps plans seat ends
    → journal ≡ record { ring = chunk_count g; lines = seen } → AreEnded same at_board query_ends
    → plans ≡ same → ends ≡ at_board → seat.seen ≡ seen → IsTraceOf workers g c s (map kind_of query_ends) journal
ends_trace {workers} {g} {c} {s} {plans} {same} {seat} {ends} {at_board} {seen} {journal} query_ends are over read ended is at saw =
    session_traces workers g c s plans ends query_ends seat.seen journal are over.by
    (subst (λ (l : List Plan). AreEnded l ends query_ends) (sym is)
    (subst (λ (l : List (BoardEnd PieceView)). AreEnded same l query_ends) (sym at) ended))
    (read ∙ ap (λ (l : Journal). record { ring = chunk_count g; lines = l }) (sym saw))
