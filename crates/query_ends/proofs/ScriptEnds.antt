-- What holds of the ends of every session, by what the form of its queries ensures. Queries of a form are Q, and their pieces
-- are P.
use Rattle.std.proofs.Common.{◌≡◌, ◌∙◌, sym, ap, refl, subst, ℕ, suc, ◌+◌, ◌≤◌, arith, true, false, not, List, [], ◌∷◌, length}
use Rattle.std.proofs.Common.{map, None, Some, Option, slice_get, is_some}
use Rattle.std.specs.List.{AllZip}
use Rattle.std.proofs.lemmas.Bool.{both_ways, cond-true, false_from_ne_true, not_from_false}
use Rattle.std.proofs.lemmas.List.{length-map}
use Rattle.sky_rules.specs.declared.limits.TheConstants.{CHUNKS_MOST}
use Rattle.scan_rules.specs.Queries.{Journal, QueryState, Done, Fresh, Cancelled as CancelledState, Spent as SpentState, is_attached, state_of}
use Rattle.sql_rules.specs.PrintedExprs.{Bytes}
use Rattle.sql_tree.specs.declared.query.Query.{Query}
use Rattle.session_rules.specs.Ends.{Judged, fit}
use Rattle.session_rules.specs.declared.end.EndKind.{EndKind}
use Rattle.session_rules.specs.declared.end.EndKind.TheVariants as kind
use Rattle.session_script.specs.Laws.{NumberedFrom}
use Rattle.session_script.specs.declared.step.Step.{Step}
use Rattle.session_script.specs.Views.{ScriptView, query_lines}
use Rattle.scan_session.specs.Laws.{AreDriven, IsJudgedBy, ShowsKind, is_empty}
use Rattle.scan_session.specs.Plans.{Plans}
use Rattle.scan_session.specs.declared.end.End.{End as BoardEnd}
use Rattle.scan_session.specs.declared.end.End.TheVariants as board
use Rattle.scan_session.proofs.Fitting.{drove_fits}
use Rattle.scan_session.proofs.Quiet.{attached_planned}
use Rattle.transcript_rules.specs.Transcripts.{is_none_of}
use Rattle.transcript_rules.specs.declared.refusal.Refusal.{Refusal}
use Rattle.query_ends.specs.Attached.{chunks_in, planned_for}
use Rattle.query_ends.specs.Ended.{AreEnded, IsEnded, MayEnd}
use Rattle.query_ends.specs.Ends.{kind_of}
use Rattle.query_ends.specs.States.{AreEndsIn, IsEndIn}
use Rattle.query_ends.specs.declared.end.End.{End}
use Rattle.query_ends.specs.declared.end.End.TheVariants as end
use Rattle.query_ends.specs.declared.plan.QueryPlan.{QueryPlan}
use Rattle.query_ends.specs.declared.plan.QueryPlan.TheVariants.{Planned, Refused}
use Rattle.query_ends.proofs.EndsOfPlans.{AreEndsFor, IsEndFor, planned_in}
use Rattle.query_ends.proofs.Lines.{lines_count}
use Rattle.query_ends.proofs.Pairs.{ended_at, ended_length}
use Rattle.query_ends.proofs.Zips.{from_map, zip_at, zip_by, zip_first, zip_length, zip_second}

-- the two ways to say that a plan has no chunks are one
pub none_empty : (xs ys : List ℕ) → ys ≡ xs → is_none_of xs ≡ is_empty ys
none_empty xs ys is = same xs ∙ ap is_empty (sym is)
  where
    same : (xs : List ℕ) → is_none_of xs ≡ is_empty xs
    same [] = refl
    same (x ∷ xs) = refl

-- What a form of queries ensures of each query of a script: with this plan and a piece over its chunks, it may be answered,
-- and its end shows what it is to show. Plans are those of their lines by `planned_by`, and `facts` are what holds of a line in
-- every session.
pub record Answering {Q P : Type 0} (for : Q → List ℕ → P → Type 0) (may_answer : Q → P → Type 0)
    (answers : Query → Q → ℕ → P → End → Type 0) (planned_by : Bytes → QueryPlan Q → Type 0) (shows : Bytes → End → Type 0)
    (facts : Bytes → Judged) : Type 0 where
  pub may : (text : Bytes) (head : Query) (query : Q) (chunks : List ℕ) (piece : P) → planned_by text (Planned head query chunks)
      → for query chunks piece → may_answer query piece × (length chunks ≤ CHUNKS_MOST)
  pub answered : (text : Bytes) (head : Query) (query : Q) (chunks : List ℕ) (piece : P) (q : End)
      → planned_by text (Planned head query chunks) → for query chunks piece → answers head query (length chunks) piece q → shows text q
  pub refused : (text : Bytes) (why : Refusal) → planned_by text (Refused why) → shows text (end.Refused why)
  pub cancelled : (text : Bytes) → shows text end.Cancelled
  pub spent : (text : Bytes) → shows text end.Spent
  pub judged : (text : Bytes) (p : QueryPlan Q) → planned_by text p → IsJudgedBy (chunks_in p) (facts text)
  pub kinds : (S : Journal) (k : ℕ) (text : Bytes) (head : Query) (query : Q) (chunks : List ℕ) (piece : P) (q : End)
      → planned_by text (Planned head query chunks) → state_of S k ≡ Done → for query chunks piece
      → answers head query (length chunks) piece q → ShowsKind S k (Some chunks) (facts text) (kind_of q)

module _ {Q P : Type 0} {for : Q → List ℕ → P → Type 0} {may_answer : Q → P → Type 0} {answers : Query → Q → ℕ → P → End → Type 0}
    {planned_by : Bytes → QueryPlan Q → Type 0} {shows : Bytes → End → Type 0} {facts : Bytes → Judged}
    (form : Answering for may_answer answers planned_by shows facts) where
  -- ---- each may end so, and shows the result of its query

  may_end : (S : Journal) (k : ℕ) (text : Bytes) (p : QueryPlan Q) (e : BoardEnd P) → planned_by text p → IsEndFor for S k p e
      → MayEnd may_answer p e
  may_end S k text (Planned head query chunks) (board.Answered piece) by is = form.may text head query chunks piece by is.1
  may_end S k text (Planned head query chunks) board.Refused by is = absurd is
  may_end S k text (Planned head query chunks) board.Cancelled by is = tt
  may_end S k text (Planned head query chunks) board.Spent by is = tt
  may_end S k text (Refused why) e by is = tt

  shown : (S : Journal) (k : ℕ) (text : Bytes) (p : QueryPlan Q) (e : BoardEnd P) (q : End) → planned_by text p → IsEndFor for S k p e
      → IsEnded answers p e q → shows text q
  shown S k text (Planned head query chunks) (board.Answered piece) q by is ended =
      form.answered text head query chunks piece q by is.1 ended
  shown S k text (Planned head query chunks) board.Refused q by is ended = absurd is
  shown S k text (Planned head query chunks) board.Cancelled q by is ended =
      subst (λ (x : End). shows text x) (sym ended) (form.cancelled text)
  shown S k text (Planned head query chunks) board.Spent q by is ended = subst (λ (x : End). shows text x) (sym ended) (form.spent text)
  shown S k text (Refused why) e q by is ended = subst (λ (x : End). shows text x) (sym ended) (form.refused text why by)

  -- how it ended, by the facts about it
  kind_shown : (S : Journal) (k : ℕ) (text : Bytes) (p : QueryPlan Q) (e : BoardEnd P) (q : End) → planned_by text p
      → IsEndFor for S k p e → IsEnded answers p e q → ShowsKind S k (chunks_in p) (facts text) (kind_of q)
  kind_shown S k text (Planned head query chunks) (board.Answered piece) q by is ended =
      form.kinds S k text head query chunks piece q by is.0 is.1 ended
  kind_shown S k text (Planned head query chunks) board.Refused q by is ended = absurd is
  kind_shown S k text (Planned head query chunks) board.Cancelled q by is ended =
      subst (λ (x : End). ShowsKind S k (Some chunks) (facts text) (kind_of x)) (sym ended) is
  kind_shown S k text (Planned head query chunks) board.Spent q by is ended =
      subst (λ (x : End). ShowsKind S k (Some chunks) (facts text) (kind_of x)) (sym ended) is
  kind_shown S k text (Refused why) (board.Answered piece) q by is ended = absurd is
  kind_shown S k text (Refused why) board.Refused q by is ended =
      subst (λ (x : End). ShowsKind S k None (facts text) (kind_of x)) (sym ended) refl
  kind_shown S k text (Refused why) board.Cancelled q by is ended = absurd is
  kind_shown S k text (Refused why) board.Spent q by is ended = absurd is

  module _ (S : ℕ → Journal) (lines : List Bytes) (plans : List (QueryPlan Q)) (ends : List (BoardEnd P))
      (are : AllZip planned_by lines plans) (left : AreEndsFor for S plans ends) where
    pub all_may_end : AllZip (MayEnd may_answer) plans ends
    all_may_end = zip_by (MayEnd may_answer) plans ends left.each (λ i p e here there.
        let line = zip_first planned_by lines plans i p are here in
        may_end (S (suc i)) (suc i) line.0 p e line.2 (left.at i p e here there))

    pub all_shown : (qs : List End) → AreEnded answers plans ends qs → AllZip shows lines qs
    all_shown qs ended =
        zip_by shows lines qs (ended_length answers plans ends qs ended ∙ zip_length planned_by lines plans are) (λ i text q here there.
        let at = ended_at answers plans ends qs i q ended there in
        shown (S (suc i)) (suc i) text at.plan at.end q (zip_at planned_by lines plans i text at.plan are here at.planned)
        (left.at i at.plan at.end at.planned at.there) at.ended)

    module _ (first_piece : Q → P) (qs : List End) (ended : AreEnded answers plans ends qs) where
      -- the end of the query at a place, by the facts about it
      kind_at : (i : ℕ) (text : Bytes) (q : End) → slice_get lines i ≡ Some text → slice_get qs i ≡ Some q
          → ShowsKind (S (suc i)) (suc i) (planned_for first_piece plans (suc i)) (facts text) (kind_of q)
      kind_at i text q here there =
          let at = ended_at answers plans ends qs i q ended there in
          subst (λ (o : Option (List ℕ)). ShowsKind (S (suc i)) (suc i) o (facts text) (kind_of q))
          (sym (planned_in first_piece plans i at.plan at.planned))
          (kind_shown (S (suc i)) (suc i) text at.plan at.end q (zip_at planned_by lines plans i text at.plan are here at.planned)
          (left.at i at.plan at.end at.planned at.there) at.ended)

      kinds_at : (i : ℕ) (j : Judged) (k : EndKind) → slice_get (map facts lines) i ≡ Some j → slice_get (map kind_of qs) i ≡ Some k
          → ShowsKind (S (suc i)) (suc i) (planned_for first_piece plans (suc i)) j k
      kinds_at i j k here there =
          let text = from_map facts lines i j here in
          let q = from_map kind_of qs i k there in
          subst (λ (x : Judged). ShowsKind (S (suc i)) (suc i) (planned_for first_piece plans (suc i)) x k) text.2
          (subst (λ (x : EndKind). ShowsKind (S (suc i)) (suc i) (planned_for first_piece plans (suc i)) (facts text.0) x) q.2
          (kind_at i text.0 q.0 text.1 q.1))

      judged_at : (i : ℕ) (j : Judged) → slice_get (map facts lines) i ≡ Some j → IsJudgedBy (planned_for first_piece plans (suc i)) j
      judged_at i j here =
          let text = from_map facts lines i j here in
          let plan = zip_second planned_by lines plans i text.0 are text.1 in
          subst (λ (o : Option (List ℕ)). IsJudgedBy o j) (sym (planned_in first_piece plans i plan.0 plan.1))
          (subst (λ (x : Judged). IsJudgedBy (chunks_in plan.0) x) text.2 (form.judged text.0 plan.0 plan.2))

      -- the ends fit the script
      pub all_fit : (workers ring : ℕ) (s : ScriptView) (of_board : ℕ → Plans) → lines ≡ query_lines s → NumberedFrom 0 s.steps
          → AreDriven workers (planned_for first_piece plans) s.steps ring of_board S
          → fit workers s.steps (map facts lines) (map kind_of qs) ≡ true
      all_fit workers ring s of_board script numbered driven =
          let judged : length (map facts lines) ≡ length lines = length-map lines facts in
          let kinds : length (map kind_of qs) ≡ length lines =
          length-map qs kind_of ∙ ended_length answers plans ends qs ended ∙ zip_length planned_by lines plans are in
          drove_fits workers (planned_for first_piece plans) s.steps ring of_board S (map facts lines) (map kind_of qs) numbered driven
          (judged ∙ ap length script ∙ lines_count s) (kinds ∙ sym judged)
          (λ i j here. let on : suc i ≡ i + 1 = omega arith in
          subst (λ n. IsJudgedBy (planned_for first_piece plans n) j) on (judged_at i j here))
          (λ i j k here there. let on : suc i ≡ i + 1 = omega arith in
          subst (λ n. ShowsKind (S n) n (planned_for first_piece plans n) j k) on (kinds_at i j k here there))

-- ---- each is in the state of the journal of its board

-- a query that is not planned is never attached
unplanned_state : (workers ring : ℕ) (plan : Plans) (steps : List Step) (of_board : ℕ → Plans) (S : ℕ → Journal) (q : ℕ)
    → AreDriven workers plan steps ring of_board S → plan q ≡ None → state_of (S q) q ≡ Fresh
unplanned_state workers ring plan steps of_board S q d none =
    let unplanned : is_some (of_board q q) ≡ false = ap is_some (d.here q ∙ none) in
    let alone : is_attached (S q) q ≡ false = false_from_ne_true _ (λ h.
    both_ways _ unplanned (attached_planned (of_board q) steps (S q) q (d.drove q).attached h).1) in
    cond-true (not (is_attached (S q) q)) Fresh _ (not_from_false _ alone)

refused_in : IsEndIn Fresh kind.Refused
refused_in = record {
  cancelled = (λ e. absurd (cc e), λ e. absurd (cc e));
  spent = (λ e. absurd (cc e), λ e. absurd (cc e));
}

cancelled_in : IsEndIn CancelledState kind.Cancelled
cancelled_in = record { cancelled = (λ e. refl, λ e. refl); spent = (λ e. absurd (cc e), λ e. absurd (cc e)) }

spent_in : IsEndIn SpentState kind.Spent
spent_in = record { cancelled = (λ e. absurd (cc e), λ e. absurd (cc e)); spent = (λ e. refl, λ e. refl) }

-- an answer is that of a query that is done
abbrev pub AnswersAreDone : {Q P : Type 0} → (Query → Q → ℕ → P → End → Type 0) → Type 0
AnswersAreDone {Q} {P} answers =
    (head : Query) (query : Q) (n : ℕ) (piece : P) (q : End) → answers head query n piece q → IsEndIn Done (kind_of q)

module _ {Q P : Type 0} (for : Q → List ℕ → P → Type 0) (answers : Query → Q → ℕ → P → End → Type 0) where
  end_in : AnswersAreDone answers → (S : Journal) (k : ℕ) (p : QueryPlan Q) (e : BoardEnd P) (q : End) → IsEndFor for S k p e
      → IsEnded answers p e q → (chunks_in p ≡ None → state_of S k ≡ Fresh) → IsEndIn (state_of S k) (kind_of q)
  end_in done S k (Planned head query chunks) (board.Answered piece) q is ended unplanned =
      subst (λ (s : QueryState). IsEndIn s (kind_of q)) (sym is.0) (done head query (length chunks) piece q ended)
  end_in done S k (Planned head query chunks) board.Refused q is ended unplanned = absurd is
  end_in done S k (Planned head query chunks) board.Cancelled q is ended unplanned =
      subst (λ (x : End). IsEndIn (state_of S k) (kind_of x)) (sym ended)
      (subst (λ (s : QueryState). IsEndIn s kind.Cancelled) (sym is) cancelled_in)
  end_in done S k (Planned head query chunks) board.Spent q is ended unplanned =
      subst (λ (x : End). IsEndIn (state_of S k) (kind_of x)) (sym ended)
      (subst (λ (s : QueryState). IsEndIn s kind.Spent) (sym is) spent_in)
  end_in done S k (Refused why) (board.Answered piece) q is ended unplanned = absurd is
  end_in done S k (Refused why) board.Refused q is ended unplanned =
      subst (λ (x : End). IsEndIn (state_of S k) (kind_of x)) (sym ended)
      (subst (λ (s : QueryState). IsEndIn s kind.Refused) (sym (unplanned refl)) refused_in)
  end_in done S k (Refused why) board.Cancelled q is ended unplanned = absurd is
  end_in done S k (Refused why) board.Spent q is ended unplanned = absurd is

  -- a query that ended answered is done
  done_for : (S : Journal) (k : ℕ) (p : QueryPlan Q) (e : BoardEnd P) (q : End) → IsEndFor for S k p e → IsEnded answers p e q
      → kind_of q ≡ kind.Answered → state_of S k ≡ Done
  done_for S k (Planned head query chunks) (board.Answered piece) q is ended answered = is.0
  done_for S k (Planned head query chunks) board.Refused q is ended answered = absurd is
  done_for S k (Planned head query chunks) board.Cancelled q is ended answered =
      let wrong : ◌≡◌ {A = EndKind} kind.Cancelled kind.Answered = sym (ap kind_of ended) ∙ answered in absurd (cc wrong)
  done_for S k (Planned head query chunks) board.Spent q is ended answered =
      let wrong : ◌≡◌ {A = EndKind} kind.Spent kind.Answered = sym (ap kind_of ended) ∙ answered in absurd (cc wrong)
  done_for S k (Refused why) e q is ended answered =
      let wrong : ◌≡◌ {A = EndKind} kind.Refused kind.Answered = sym (ap kind_of ended) ∙ answered in absurd (cc wrong)

  module _ (S : ℕ → Journal) (plans : List (QueryPlan Q)) (ends : List (BoardEnd P)) (left : AreEndsFor for S plans ends)
      (qs : List End) (ended : AreEnded answers plans ends qs) where
    -- each query that ended answered is done in the journal of its board
    pub all_done : (i : ℕ) → slice_get (map kind_of qs) i ≡ Some kind.Answered → state_of (S (i + 1)) (i + 1) ≡ Done
    all_done i there =
        let q = from_map kind_of qs i kind.Answered there in
        let at = ended_at answers plans ends qs i q.0 ended q.1 in
        let on : suc i ≡ i + 1 = omega arith in
        subst (λ n. state_of (S n) n ≡ Done) on
        (done_for (S (suc i)) (suc i) at.plan at.end q.0 (left.at i at.plan at.end at.planned at.there) at.ended q.2)

    -- the ends are in the states of the journals
    pub all_in_states : AnswersAreDone answers → (first_piece : Q → P) (workers ring : ℕ) (steps : List Step) (of_board : ℕ → Plans)
        → AreDriven workers (planned_for first_piece plans) steps ring of_board S → AreEndsIn S (map kind_of qs)
    all_in_states done first_piece workers ring steps of_board d i k there =
        let q = from_map kind_of qs i k there in
        let at = ended_at answers plans ends qs i q.0 ended q.1 in
        let on : suc i ≡ i + 1 = omega arith in
        subst (λ n. IsEndIn (state_of (S n) n) k) on
        (subst (λ (x : EndKind). IsEndIn (state_of (S (suc i)) (suc i)) x) q.2
        (end_in done (S (suc i)) (suc i) at.plan at.end q.0 (left.at i at.plan at.end at.planned at.there) at.ended (λ none.
        unplanned_state workers ring (planned_for first_piece plans) steps of_board S (suc i) d
        (planned_in first_piece plans i at.plan at.planned ∙ none))))
