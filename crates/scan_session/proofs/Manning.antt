-- The joins of the workers' seats: what the czar's seat knows of theirs.
use Rattle.std.proofs.Common.{◌≡◌, ℕ, ◌+◌, ◌-◌, ◌<◌, ◌≤◌, nat_lt, List, [], ◌∷◌, ◌++◌, length, take, Bool, true, Option, ◌⊎◌, ⊎_elim, refl, sym, ◌∙◌, ap, subst, arith, append_assoc, append-nil, Contains}
use Rattle.std.specs.List.{list_all}
use Rattle.std.proofs.lemmas.Bool.{cases_Bool, cond-true, cond-false, false≢true}
use Rattle.std.proofs.lemmas.List.Elements.{Contains-append_left, Contains-append_right}
use mathlib.Core.List.{IsPrefix}
use Rattle.atomic_table.specs.Seated.{TableId}
use Rattle.turn_lock.specs.Pasts.{longer}
use Rattle.turn_lock.specs.Seats.{Knows, joined_with, next_seat, one_more_made}
use Rattle.scan_rules.specs.Lines.{seat_of, closes}
use Rattle.scan_rules.specs.Queries.{Journal, QueryState, is_attached, is_closed, wanted}
use Rattle.scan_rules.proofs.Lists.{any_stays}
use Rattle.scan_core.specs.Boards.{IsLawful}
use Rattle.scan_board.specs.Calls.{BoardSeat, board_at}
use Rattle.scan_worker.specs.Missing.{LosesOnly}
use Rattle.scan_worker.specs.Working.{is_work, AllDelivered, Worked}
use Rattle.session_script.specs.declared.step.Step.{Step}
use Rattle.scan_session.specs.Plans.{AllRunAtOnce, Plans}
use Rattle.scan_session.specs.Driven.{Going}
use Rattle.scan_session.specs.Seats.{of_seat, IsCzar, Stays}
use Rattle.scan_session.specs.KnownEnds.{PlansFit}
use Rattle.scan_session.specs.Places.{only, AreCzars, GoingAll, HasRoom, AllStand, AllFit}
use Rattle.scan_session.specs.Crews.{Closed, KeepsCauses, KeepsWork, Leaves, Manned, MannedBy, MaySplit}
use Rattle.scan_session.specs.declared.end.End.{End}
use Rattle.scan_session.specs.declared.end.Planned.{Planned}
use Rattle.scan_session.specs.declared.end.Outcome.{Outcome}
use Rattle.scan_session.specs.declared.end.Outcome.TheVariants.{Went, Memory, Odd}
use Rattle.scan_session.proofs.Closing.{foreign_later}
use Rattle.scan_session.proofs.Placing.{clean_before, going_weaken, room_before}

pub take_seam : {X : Type 0} (xs ys : List X) (n : ℕ) → length xs ≡ n → take n (xs ++ ys) ≡ xs
take_seam {X} xs ys n e = subst (λ k. take k (xs ++ ys) ≡ xs) e (seam xs) where
  seam : (xs : List X) → take (length xs) (xs ++ ys) ≡ xs
  seam [] = refl
  seam (x ∷ xs) = ap (λ (l : List X). x ∷ l) (seam xs)

-- the lines of a closed board, after others add lines
closed_on : {Room : Type 0} (plan : Plans) (steps : List Step) (seen more : Journal) (ends : ℕ → Option QueryState) → of_seat 0 (seen ++ more) ≡ of_seat 0 seen → Closed Room plan steps seen ends → Closed Room plan steps (seen ++ more) ends
closed_on plan steps seen more ends own c = record {
  before = c.before;
  rest = c.rest ++ more;
  is = ap (λ (j : Journal). j ++ more) c.is ∙ append_assoc _ c.rest more;
  own = own ∙ c.own;
  drives = c.drives;
}

pub nothing_delivered : AllDelivered []
nothing_delivered = record { each = λ t h. absurd (false≢true h) }

module _ {R : Type 0} (asks : R → ℕ → ℕ → Type 0) where
  -- the czar alone
  pub manned_alone : {may : ℕ → Type 0} (old new : BoardSeat R) → Stays asks may old new → is_closed new.seen ≡ true → Knows seat_of new → Manned asks old new
  manned_alone old new s c knows = record {
    first = s.czar.first;
    turn = s.turn;
    root = s.root;
    made = let m = s.made in omega (arith, m);
    later = s.later;
    known = knows;
    lawful = s.czar.lawful;
    delivered = s.czar.delivered;
    closed = c;
    crew = λ n h low. let m = s.made in absurd (omega (arith, m, h, low));
  }

  -- one of two journals
  one_of : (P : Journal → Type 0) (a b : Journal) → P a → P b → P (longer a b)
  one_of P a b p q = ⊎_elim
      (λ t. subst P (sym (cond-true (nat_lt (length a) (length b)) b a t)) q)
      (λ f. subst P (sym (cond-false (nat_lt (length a) (length b)) b a f)) p)
      (cases_Bool (nat_lt (length a) (length b)))

  -- one worker more: its seat was split off first, and is joined last
  pub manned_more : (old other mid work new : BoardSeat R) → other ≡ next_seat old → Worked other work → IsLawful asks (board_at other work.seen)
      → Manned asks (one_more_made old) mid → new ≡ joined_with mid work → IsPrefix mid.seen new.seen → Knows seat_of new → Manned asks old new
  manned_more old other mid work new o w lawful m e later knows =
      let root : work.root ≡ old.root = ap (λ (s : BoardSeat R). s.root) w.same ∙ ap (λ (s : BoardSeat R). s.root) o in
      let root_other : other.root ≡ old.root = ap (λ (s : BoardSeat R). s.root) o in
      let root_new : new.root ≡ old.root = ap (λ (s : BoardSeat R). s.root) e ∙ m.root in
      let mine_new : new.mine ≡ mid.mine = ap (λ (s : BoardSeat R). s.mine) e in
      let made_new : new.made ≡ mid.made = ap (λ (s : BoardSeat R). s.made) e in
      let seen_new : new.seen ≡ longer mid.seen work.seen = ap (λ (s : BoardSeat R). s.seen) e in
      let ended_new : new.ended ≡ mid.ended ++ (work.number, work.mine) ∷ work.ended = ap (λ (s : BoardSeat R). s.ended) e in
      let number : work.number ≡ old.made = ap (λ (s : BoardSeat R). s.number) w.same ∙ ap (λ (s : BoardSeat R). s.number) o in
      let mine : work.mine ≡ w.more = ap (λ (s : BoardSeat R). s.mine) w.same ∙ ap (λ (l : Journal). l ++ w.more) (ap (λ (s : BoardSeat R). s.mine) o) in
      let made : old.made + 1 ≤ mid.made = m.made in
      let Law : Journal → Type 0 = λ l. IsLawful asks (record { root = old.root.root; ring = old.root.ring; past = l }) in
      let law_mid : Law mid.seen = subst (λ r. IsLawful asks (record { root = r.root; ring = r.ring; past = mid.seen })) m.root m.lawful in
      let law_work : Law work.seen = subst (λ r. IsLawful asks (record { root = r.root; ring = r.ring; past = work.seen })) root_other lawful in
      record {
        first = ap (λ (s : BoardSeat R). s.number) e ∙ m.first;
        turn = ap (λ (s : BoardSeat R). s.turn) e ∙ m.turn;
        root = root_new;
        made = omega (arith, made_new, made);
        later = (m.later.0 ++ later.0, sym (append_assoc old.seen m.later.0 later.0) ∙ (ap (λ (l : Journal). l ++ later.0) m.later.1 ∙ later.1));
        known = knows;
        lawful = subst (λ r. IsLawful asks (record { root = r.root; ring = r.ring; past = new.seen })) (sym root_new) (subst Law (sym seen_new) (one_of Law mid.seen work.seen law_mid law_work));
        delivered = subst AllDelivered (sym mine_new) m.delivered;
        closed = subst (λ (l : Journal). is_closed l ≡ true) later.1 (any_stays closes mid.seen later.0 m.closed);
        crew = λ n h low. subst (λ (l : List (ℕ × Journal)). KeepsWork l n) (sym ended_new) (⊎_elim
            (λ same. record {
              lines = work.mine;
              kept = subst (λ z. Contains (mid.ended ++ (work.number, work.mine) ∷ work.ended) (z, work.mine)) (number ∙ sym same) (Contains-append_right mid.ended ((work.number, work.mine) ∷ work.ended) (work.number, work.mine) (0, omega arith, refl));
              work = subst (λ (l : Journal). list_all is_work l ≡ true) (sym mine) w.work;
              delivered = w.delivered;
            })
            (λ above. let k = m.crew n above (omega (arith, low, made_new)) in
            record {
              lines = k.lines;
              kept = Contains-append_left mid.ended ((work.number, work.mine) ∷ work.ended) (n, k.lines) k.kept;
              work = k.work;
              delivered = k.delivered;
            })
            (first_or_above n old.made h));
      } where
        first_or_above : (m n : ℕ) → n ≤ m → (m ≡ n) ⊎ (n + 1 ≤ m)
        first_or_above m n h = grind (arith, h)

  here_or_above : (m n : ℕ) → n ≤ m → (m ≡ n) ⊎ (n + 1 ≤ m)
  here_or_above m n h = grind (arith, h)

  -- what one worker more lost may be lost
  pub causes_more : (may : ℕ → Type 0) (workers : ℕ) (old other mid work new : BoardSeat R) → other ≡ next_seat old → Worked other work → LosesOnly may other.mine work.mine
      → MannedBy asks may workers (one_more_made old) mid → new ≡ joined_with mid work
      → (n : ℕ) → old.made ≤ n → n < new.made → KeepsCauses may new.ended n
  causes_more may workers old other mid work new o w lost m e n h low =
      let made_new : new.made ≡ mid.made = ap (λ (s : BoardSeat R). s.made) e in
      let ended_new : new.ended ≡ mid.ended ++ (work.number, work.mine) ∷ work.ended = ap (λ (s : BoardSeat R). s.ended) e in
      let number : work.number ≡ old.made = ap (λ (s : BoardSeat R). s.number) w.same ∙ ap (λ (s : BoardSeat R). s.number) o in
      subst (λ (l : List (ℕ × Journal)). KeepsCauses may l n) (sym ended_new) (⊎_elim
      (λ same. record {
        lines = work.mine;
        kept = subst (λ z. Contains (mid.ended ++ (work.number, work.mine) ∷ work.ended) (z, work.mine)) (number ∙ sym same) (Contains-append_right mid.ended ((work.number, work.mine) ∷ work.ended) (work.number, work.mine) (0, omega arith, refl));
        lost = subst (λ (l : Journal). LosesOnly may l work.mine) (ap (λ (s : BoardSeat R). s.mine) o) lost;
      })
      (λ above. let k = m.causes n above (omega (arith, low, made_new)) in
      record {
        lines = k.lines;
        kept = Contains-append_left mid.ended ((work.number, work.mine) ∷ work.ended) (n, k.lines) k.kept;
        lost = k.lost;
      })
      (here_or_above n old.made h))

  -- and what the czar's participant lost, as a join adds no line to its own
  pub lost_joined : (may : ℕ → Type 0) (old mid work new : BoardSeat R) → new ≡ joined_with mid work → LosesOnly may old.mine mid.mine → LosesOnly may old.mine new.mine
  lost_joined may old mid work new e lost = subst (LosesOnly may old.mine) (sym (ap (λ (s : BoardSeat R). s.mine) e)) lost

  -- the czar's own lines are those that he made, before the join and after it
  pub own_same : (old new mid : BoardSeat R) → mid.number ≡ 0 → new.number ≡ 0 → new.mine ≡ mid.mine → Knows seat_of mid → Knows seat_of new → of_seat 0 new.seen ≡ of_seat 0 mid.seen
  own_same old new mid z y e k l = subst (λ n. of_seat n new.seen ≡ new.mine) y l.mine ∙ (e ∙ sym (subst (λ n. of_seat n mid.seen ≡ mid.mine) z k.mine))

  -- the czar's seat, when one more seat was split off
  czar_split : (old new : BoardSeat R) → new ≡ one_more_made old → IsCzar asks old → IsCzar asks new
  czar_split old new e z = record {
    first = ap (λ (s : BoardSeat R). s.number) e ∙ z.first;
    own = subst (λ (s : BoardSeat R). of_seat 0 s.seen ≡ s.mine) (sym e) z.own;
    lawful = subst (λ (s : BoardSeat R). IsLawful asks (board_at s s.seen)) (sym e) z.lawful;
    delivered = subst AllDelivered (sym (ap (λ (s : BoardSeat R). s.mine) e)) z.delivered;
  }

  pub czars_split : {L : Type 0} (locks : L → TableId) (root : R) (old new : L → BoardSeat R) → ((p : L) → new p ≡ one_more_made (old p)) → AreCzars asks locks root old → AreCzars asks locks root new
  czars_split locks root old new e z = record {
    own = λ p. ap (λ (s : BoardSeat R). s.turn) (e p) ∙ z.own p;
    czar = λ p. czar_split (old p) (new p) (e p) (z.czar p);
    engine = λ p. z.engine p ∙ sym (ap (λ (s : BoardSeat R). s.root.root) (e p));
  }

  -- so many seats were made
  pub made_more : (workers : ℕ) (old mid work new : BoardSeat R) → 1 ≤ workers → mid.made ≡ (one_more_made old).made + (workers - 1) → new ≡ joined_with mid work → new.made ≡ old.made + workers
  made_more workers old mid work new some made e =
      let same : new.made ≡ mid.made = ap (λ (s : BoardSeat R). s.made) e in
      let split : mid.made ≡ (old.made + 1) + (workers - 1) = made in
      omega (arith, same, split, some)

  -- one seat fewer can be made, when one was
  pub split_less : (workers : ℕ) (old new : BoardSeat R) → 1 ≤ workers → new ≡ one_more_made old → MaySplit workers old → MaySplit (workers - 1) new
  split_less workers old new some e m =
      let made : new.made ≡ old.made + 1 = ap (λ (s : BoardSeat R). s.made) e in
      let room : old.made + workers < 4294967295 = m.room in
      record { from_1 = omega (arith, made); room = omega (arith, made, some, room) }

  pub split_delivered : (old other : BoardSeat R) → other ≡ next_seat old → AllDelivered other.mine
  split_delivered old other e = subst AllDelivered (sym (ap (λ (s : BoardSeat R). s.mine) e)) nothing_delivered

module _ {R L : Type 0} (asks : R → ℕ → ℕ → Type 0) (has : L → ℕ → Bool) (mid work new : L → BoardSeat R) (z : (p : L) → (mid p).number ≡ 0) (knows : (p : L) → Knows seat_of (mid p))
    (joined : (p : L) → new p ≡ joined_with (mid p) (work p)) (later : (p : L) → IsPrefix (mid p).seen (new p).seen) (known : (p : L) → Knows seat_of (new p)) where
  own_at : (p : L) → of_seat 0 (new p).seen ≡ of_seat 0 (mid p).seen
  own_at p = own_same asks (mid p) (new p) (mid p) (z p) (ap (λ (s : BoardSeat R). s.number) (joined p) ∙ z p) (ap (λ (s : BoardSeat R). s.mine) (joined p)) (knows p) (known p)

  -- what the czar leaves stays, after a join
  pub leaves_joined : (plan : Plans) (steps : List Step) (ends : ℕ → Option QueryState) (r : Outcome) → Leaves has plan steps mid ends r → Leaves has plan steps new ends r
  leaves_joined plan steps ends Memory l = l
  leaves_joined plan steps ends Odd l = foreign_later mid new later l
  leaves_joined plan steps ends Went l = λ clean p.
      let own : of_seat 0 ((mid p).seen ++ (later p).0) ≡ of_seat 0 (mid p).seen = subst (λ (j : Journal). of_seat 0 j ≡ of_seat 0 (mid p).seen) (sym (later p).1) (own_at p) in
      subst (λ (j : Journal). Closed (AllRunAtOnce plan) (only (has p) plan) steps j (only (has p) ends)) (later p).1
      (closed_on (only (has p) plan) steps (mid p).seen (later p).0 (only (has p) ends) own (l (clean_before mid new later clean) p))

-- what fits and suits the boards, when one more seat was split off
pub fit_split : {R L P : Type 0} (stands : R → ℕ → List ℕ → P → Type 0) (asks : R → ℕ → ℕ → Type 0) (suits : ℕ → List ℕ → Type 0) (old new : L → BoardSeat R) (plans : List (Option (Planned P)))
    → ((p : L) → new p ≡ one_more_made (old p)) → AllFit stands asks suits old plans → AllFit stands asks suits new plans
fit_split {R} {L} {P} stands asks suits old new plans e f = record {
  fit = λ p. subst (λ (s : BoardSeat R). PlansFit stands asks s.root.ring s.root.root plans) (sym (e p)) (f.fit p);
  suit = f.suit;
}

-- what is driven on the lines seen, when one more seat was split off
pub going_split : {R L : Type 0} (has : L → ℕ → Bool) (plan : Plans) (done : List Step) (ends : ℕ → Option QueryState) (old new : L → BoardSeat R)
    → ((p : L) → new p ≡ one_more_made (old p)) → GoingAll has plan done old ends → GoingAll has plan done new ends
going_split {R} has plan done ends old new e g p =
    let later : (o : _) → IsPrefix (old o).seen (new o).seen = λ o. ([], append-nil (old o).seen ∙ sym (ap (λ (s : BoardSeat R). s.seen) (e o))) in
    going_weaken (only (has p) plan) done (new p).seen (only (has p) ends) (room_before plan old new later)
    (subst (λ (j : Journal). Going (HasRoom plan old) (only (has p) plan) done j (only (has p) ends)) (sym (ap (λ (s : BoardSeat R). s.seen) (e p))) (g p))

-- what the pieces represent, when one more seat was split off
pub pieces_split : {R L P : Type 0} (stands : R → ℕ → List ℕ → P → Type 0) (home : ℕ → L) (old new : L → BoardSeat R) (ends : List (Option (End P)))
    → ((p : L) → new p ≡ one_more_made (old p)) → AllStand stands home old ends → AllStand stands home new ends
pieces_split {R} stands home old new ends e w = record {
  each = λ q piece at. let s = w.each q piece at in record {
    attached = subst (λ (x : BoardSeat R). is_attached x.seen q ≡ true) (sym (e (home q))) s.attached;
    whole = subst (λ (x : BoardSeat R). stands x.root.root q (wanted x.seen q) piece) (sym (e (home q))) s.whole;
  };
}
