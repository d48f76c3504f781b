-- Why a worker's lines lose a query.
use Rattle.std.proofs.Common.{◌≡◌, ℕ, ◌<◌, ◌==◌, ◌&&◌, zero, suc, List, [], ◌∷◌, ◌++◌, length, Option, None, Some, IfSome, true, false, inl, inr, ⊎_elim, refl, sym, ap, ◌∙◌, subst, arith, eq-eqb, eqb-true}
use Rattle.std.proofs.lemmas.List.{append_assoc}
use Rattle.std.specs.List.{list_any}
use Rattle.std.proofs.lemmas.Bool.{and_parts, both_ways, false≢true, or_cases}
use Rattle.scan_rules.specs.declared.journal_line.JournalLine.{JournalLine}
use Rattle.scan_rules.specs.declared.journal_line.JournalLine.TheVariants.{Attach, Take as TakeLine, Deliver, Cancel, Collect, Close}
use Rattle.scan_rules.specs.Delivers.{entry_of, query_of}
use Rattle.scan_rules.specs.Lines.{has_ticket, loses, names_with}
use Rattle.scan_rules.specs.Numbers.{has}
use Rattle.scan_rules.specs.Queries.{Journal, is_lost, is_running}
use Rattle.scan_rules.specs.Runs.{IsRun}
use Rattle.scan_rules.proofs.Giving.{ticket_once}
use Rattle.scan_rules.proofs.Lists.{alone_passes, any_cases, any_weaker}
use Rattle.scan_rules.proofs.Numbers.{all_has}
use Rattle.scan_core.specs.Answers.{AnswersTake}
use Rattle.scan_core.specs.declared.answers.Take.TheVariants.{Task}
use Rattle.scan_core.specs.Boards.{BoardState, TaskState}
use Rattle.scan_board.specs.Calls.{BoardSeat, Called}
use Rattle.scan_board.proofs.Holding.{past_runs, seat_adds, seen_take}
use Rattle.scan_core.specs.Delivering.{PiecesFit}
use Rattle.scan_worker.specs.Missing.{LosesOnly, MayLose, MissesRefused}
use Rattle.scan_worker.specs.Rounds.{HandsOn}

-- a line that takes with this ticket for a query takes with this ticket
names_ticket : (t q : ℕ) (line : JournalLine) → names_with t q line ≡ true → has_ticket t line ≡ true
names_ticket t q (TakeLine s u c queries) h = (and_parts (u == t) (has queries q) h).0
names_ticket t q (Attach s p chunks) h = absurd (false≢true h)
names_ticket t q (Deliver s u lost) h = absurd (false≢true h)
names_ticket t q (Cancel s p) h = absurd (false≢true h)
names_ticket t q (Collect s p) h = absurd (false≢true h)
names_ticket t q (Close s) h = absurd (false≢true h)

-- on a run only the queries of a take are taken with its ticket
names_its : {ring : ℕ} (before : Journal) (s t c : ℕ) (queries : List ℕ) (rest : Journal) → IsRun ring (before ++ TakeLine s t c queries ∷ rest)
    → (q : ℕ) → list_any (names_with t q) (before ++ TakeLine s t c queries ∷ rest) ≡ true → has queries q ≡ true
names_its {ring} before s t c queries rest run q h =
    let line : JournalLine = TakeLine s t c queries in
    let once = alone_passes (has_ticket t) before line rest (eq-eqb t t refl) (ticket_once (before ++ line ∷ rest) t run) in
    ⊎_elim
    (λ front. absurd (both_ways _ once.0 (any_weaker (names_with t q) (has_ticket t) (names_ticket t q) before front)))
    (λ on. ⊎_elim
    (λ here. (and_parts (t == t) (has queries q) here).1)
    (λ later. absurd (both_ways _ once.1 (any_weaker (names_with t q) (has_ticket t) (names_ticket t q) rest later)))
    (or_cases (names_with t q line) (list_any (names_with t q) rest) on))
    (any_cases (names_with t q) before (line ∷ rest) h)

-- a query of a list has a position there
pub has_turn : (queries : List ℕ) (q : ℕ) → has queries q ≡ true → (turn : ℕ) × (turn < length queries) × (query_of queries turn ≡ q)
has_turn [] q h = absurd (false≢true h)
has_turn (x ∷ xs) q h = ⊎_elim
    (λ t. (zero, omega arith, eqb-true x q t))
    (λ f. let r = has_turn xs q f in (suc r.0, omega (arith, r.1), r.2))
    (or_cases (x == q) (has xs q) h)

module _ {P : Type 0} (refused : ℕ → ℕ → Type 0) (unlisted : TaskState → Type 0) (refuses : P → P → Type 0)
    (stands : ℕ → List ℕ → P → Type 0) where
  -- a query is lost as the engine refused its piece, or because another piece could not absorb it
  cause_of : (q chunk : ℕ) (entry : Option P) → (entry ≡ None → refused q chunk)
      → IfSome entry (λ piece. stands q (chunk ∷ []) piece) → IfSome entry (λ other. (mine : P) × refuses mine other)
      → MayLose refused unlisted refuses stands q
  cause_of q chunk None missing fits r = inl (record { chunk = chunk; piece = missing refl })
  cause_of q chunk (Some other) missing fits r =
      inr (inr (record { chunk = chunk; mine = r.0; other = other; stands_so = fits; full = r.1 }))

  -- so each query of a task that is lost has a cause
  cause_at : (task : TaskState) (entries : List (Option P)) (q turn : ℕ) → turn < length task.queries
      → query_of task.queries turn ≡ q → has task.queries q ≡ true → PiecesFit stands task.chunk task.queries entries
      → MissesRefused refused unlisted task entries → IfSome (entry_of entries turn) (λ other. (mine : P) × refuses mine other)
      → MayLose refused unlisted refuses stands q
  cause_at task entries q turn low is asked fit missing r = ⊎_elim
      (λ a. subst (MayLose refused unlisted refuses stands) is
      (cause_of (query_of task.queries turn) task.chunk (entry_of entries turn) (a.none.each turn low)
      (fit.each turn (omega (arith, low, a.full))) r))
      (λ n. inr (inl (record { task = task; asked = asked; list = n.list })))
      missing

-- a task that is taken and delivered with its pieces loses a query only for a cause
pub lost_task : {R P : Type 0} (refuses : P → P → Type 0) (asks : R → ℕ → ℕ → Type 0) (stands : ℕ → List ℕ → P → Type 0)
    (refused : ℕ → ℕ → Type 0) (unlisted : TaskState → Type 0) (old mid new : BoardSeat R) (task : TaskState)
    → Called asks (λ before after. AnswersTake old.number before (Task task) after) old mid
    → HandsOn refuses asks stands refused unlisted task mid new → LosesOnly (MayLose refused unlisted refuses stands) old.mine new.mine
lost_task {R} {P} refuses asks stands refused unlisted old mid new task t h =
    let d = h.called in
    let lost : List ℕ = d.answer.lost in
    let first : JournalLine = TakeLine old.number task.ticket task.chunk task.queries in
    let last : JournalLine = Deliver mid.number task.ticket lost in
    let taken : mid.seen ≡ t.past ++ first ∷ [] = seen_take old mid t.past task t.answer in
    let gone : new.seen ≡ d.past ++ last ∷ [] = ap (λ (b : BoardState R). b.past) d.answer.line in
    let mid_is : mid ≡ record old { seen = mid.seen; mine = old.mine ++ first ∷ [] } = seat_adds asks _ old mid t first taken in
    let new_is : new ≡ record mid { seen = new.seen; mine = mid.mine ++ last ∷ [] } = seat_adds asks _ mid new d last gone in
    let mine_is : new.mine ≡ (old.mine ++ first ∷ []) ++ last ∷ [] =
    ap (λ (s : BoardSeat R). s.mine) new_is ∙ ap (λ (s : BoardSeat R). s.mine ++ last ∷ []) mid_is in
    let past_is : d.past ≡ t.past ++ first ∷ d.later.0 =
    sym d.later.1 ∙ (ap (λ (l : Journal). l ++ d.later.0) taken ∙ append_assoc t.past (first ∷ []) d.later.0) in
    let run : IsRun mid.root.ring (t.past ++ first ∷ d.later.0) = subst (IsRun mid.root.ring) past_is (past_runs asks _ mid new d) in
    let Test : ℕ → Journal → Type 0 = λ q past. list_any (names_with task.ticket q) past ≡ true in
    let by : (q : ℕ) → has lost q ≡ true → MayLose refused unlisted refuses stands q = λ q there.
    let named = (and_parts (is_running d.past q) (list_any (names_with task.ticket q) d.past)
    (all_has (λ p. is_running d.past p && list_any (names_with task.ticket p) d.past) lost q d.answer.may.losable there)).1 in
    let asked = names_its t.past old.number task.ticket task.chunk task.queries d.later.0 run q (subst (Test q) past_is named) in
    let at = has_turn task.queries q asked in
    let turn : ℕ = at.0 in
    cause_at refused unlisted refuses stands task h.entries q turn at.1 at.2 asked h.fit h.missing
    (d.answer.causes.each turn at.1 (subst (λ n. has lost n ≡ true) (sym at.2) there)) in
    record {
      each = λ q l. ⊎_elim
          (λ front. ⊎_elim (λ was. inl was) (λ take. absurd (false≢true take)) (any_cases (loses q) old.mine (first ∷ []) front))
          (λ end. inr (by q (⊎_elim (λ y. y) (λ f. absurd (false≢true f)) (or_cases (has lost q) false end))))
          (any_cases (loses q) (old.mine ++ first ∷ []) (last ∷ []) (subst (λ (j : Journal). is_lost j q ≡ true) mine_is l));
    }

-- the same lines lose nothing more
pub loses_same : (may : ℕ → Type 0) (old new : Journal) → new ≡ old → LosesOnly may old new
loses_same may old new e = record { each = λ q l. inl (subst (λ (j : Journal). is_lost j q ≡ true) e l) }

-- and so line after line
pub loses_on : (may : ℕ → Type 0) (old mid new : Journal) → LosesOnly may old mid → LosesOnly may mid new → LosesOnly may old new
loses_on may old mid new a b = record { each = λ q l. ⊎_elim (λ was. a.each q was) (λ m. inr m) (b.each q l) }
