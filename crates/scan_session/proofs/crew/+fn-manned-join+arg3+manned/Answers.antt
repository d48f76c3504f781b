use Rattle.std.proofs.Common.{◌≡◌, ℕ, ◌≤◌, ◌-◌, sym, ap, subst, rules, ◌∙◌, []}
use base.Fml.{Lft}
use base.Shift.{Keyless}
use Rattle.scan_worker.specs.Missing.{MayLose}
use Rattle.scan_session.specs.KnownEnds.{known_in}
use Rattle.scan_session.specs.Czars.{MayRun}
use Rattle.scan_session.specs.Crews.{AreWorkers, MannedBy, MaySplit}
use Rattle.scan_session.proofs.Manning.{causes_more, czars_split, fit_split, going_split, leaves_joined, lost_joined, made_more, manned_more, pieces_split, split_delivered, split_less}
use Rattle.scan_session.proofs.Listing.{pieces_on}
use Rattle.scan_session.proofs.crew.+fn-manned-join+arg3+manned.Goals as goal

pub join-other-requires-after_bounds : goal.join-other-requires-after_bounds
join-other-requires-after_bounds g t c κs bounds =
    let asks = g.P.Work.asks in
    let boards = c.args.scan.now.boards.now in
    let old = g.B.Tasks.at c.args.seat in
    let seat = g.B.Tasks.at c.split-other.new.seat in
    let other = g.B.Tasks.at c.split-other.result in
    let kept = c.split-other.ensures.kept in
    let next = c.split-other.ensures.next in
    let workers : AreWorkers (g.B.Tasks.turn boards) (g.E.Engine.root c.args.scan.now.engine.now) other = record {
      own = λ p. ap (λ s. s.turn) (next p) ∙ c.requires.may.seats.own p;
      engine = λ p. c.requires.may.seats.engine p ∙ sym (ap (λ s. s.root.root) (next p));
      delivered = λ p. split_delivered asks (old p) (other p) (next p);
    } in
    let may : MayRun asks g.P.Work.stands (g.B.Tasks.turn boards) (g.B.Boards.suits boards) (g.E.Engine.root c.args.scan.now.engine.now) seat c.args.plans.items c.args.ends.items c.args.steps.now = record {
      seats = czars_split asks (g.B.Tasks.turn boards) (g.E.Engine.root c.args.scan.now.engine.now) old seat kept c.requires.may.seats;
      script = c.requires.may.script;
      len = c.requires.may.len;
      few = c.requires.may.few;
      fit = fit_split g.P.Work.stands asks (g.B.Boards.suits boards) old seat c.args.plans.items kept c.requires.may.fit;
    } in
    let some : 1 ≤ c.args.workers = search rules in
    let split : (p : _) → MaySplit (c.args.workers - 1) (seat p) = λ p. split_less asks c.args.workers (old p) (seat p) some (kept p) (c.requires.split p) in
    let shared : (x : g.row.R.Denot) → (b : ℕ) → (o : ℕ) → (κ : Lft) → Keyless (g.row.R.shr_at x b o κ) = c.requires-raw.1.1.1.1.1.1.1.1.1.1.1.1.1.1.1.0.shared in
    let boards_shared : (x : g.row.B.Denot) → (b : ℕ) → (o : ℕ) → (κ : Lft) → Keyless (g.row.B.shr_at x b o κ) = c.requires-raw.1.1.1.1.1.1.1.1.1.1.1.1.1.1.1.1.0.shared in
    let engines : (x : g.row.E.Denot) → (b : ℕ) → (o : ℕ) → (κ : Lft) → Keyless (g.row.E.shr_at x b o κ) = c.requires-raw.1.1.1.1.1.1.1.1.1.1.1.1.1.1.1.1.1.0.shared in
    let gates : (x : g.row.G.Denot) → (b : ℕ) → (o : ℕ) → (κ : Lft) → Keyless (g.row.G.shr_at x b o κ) = c.requires-raw.1.1.1.1.1.1.1.1.1.1.1.1.1.1.1.1.1.1.0.shared in
    ((record { shared = shared }, workers), (search rules, ((λ a m. m), ((λ a m. m), ((λ a m. m), ((λ a m. m), ((λ a m. m), ((λ a m. m), ((λ a m. m), ((λ a m. m), ((λ a m. m), (record { shared = shared }, (may, (some, (split, (search rules, search rules, search rules, search rules, search rules, record { shared = shared }, record { shared = boards_shared }, record { shared = engines }, record { shared = gates }))))))))))))))))

pub returns-clause-manned : goal.returns-clause-manned
returns-clause-manned g t c p =
    let served = c.join-other.ensures.first p in
    let mid = g.B.Tasks.at c.join-other.result.1.2 p in
    let some : 1 ≤ c.args.workers = search rules in
    let may = MayLose (g.E.Engine.refused c.args.scan.now.engine.now) (g.E.Engine.unlisted c.args.scan.now.engine.now (g.E.Engine.refused c.args.scan.now.engine.now)) g.P.Work.refuses (g.P.Work.stands (g.E.Engine.root c.args.scan.now.engine.now)) in
    let m = subst (λ s. MannedBy g.P.Work.asks may (c.args.workers - 1) s mid) (c.split-other.ensures.kept p) (c.join-other.ensures.second.1 p) in
    record {
      manned = manned_more g.P.Work.asks (g.B.Tasks.at c.args.seat p) (g.B.Tasks.at c.split-other.result p) mid (g.B.Tasks.at c.join-other.result.0 p) (g.B.Tasks.at c.join.new.seat p) (c.split-other.ensures.next p) served.worked served.lawful
          m.manned (c.join.ensures.joined p) (c.join.ensures.own_seen p) (c.join.ensures.known p);
      made = made_more g.P.Work.asks c.args.workers (g.B.Tasks.at c.args.seat p) mid (g.B.Tasks.at c.join-other.result.0 p) (g.B.Tasks.at c.join.new.seat p) some m.made (c.join.ensures.joined p);
      lost = lost_joined g.P.Work.asks may (g.B.Tasks.at c.args.seat p) mid (g.B.Tasks.at c.join-other.result.0 p) (g.B.Tasks.at c.join.new.seat p) (c.join.ensures.joined p) m.lost;
      causes = causes_more g.P.Work.asks may (c.args.workers - 1) (g.B.Tasks.at c.args.seat p) (g.B.Tasks.at c.split-other.result p) mid (g.B.Tasks.at c.join-other.result.0 p) (g.B.Tasks.at c.join.new.seat p)
          (c.split-other.ensures.next p) served.worked served.lost m (c.join.ensures.joined p);
    }

pub returns-clause-ran : goal.returns-clause-ran
returns-clause-ran g t c =
    let boards = c.args.scan.now.boards.now in
    let has = g.B.Boards.has boards in
    let home = g.B.Boards.home boards in
    let old = g.B.Tasks.at c.args.seat in
    let split = g.B.Tasks.at c.split-other.new.seat in
    let kept = c.split-other.ensures.kept in
    let mid = g.B.Tasks.at c.join-other.result.1.2 in
    let ends = c.join-other.result.1.1.items in
    let ran = c.join-other.ensures.second.0 in
    let manned = c.join-other.ensures.second.1 in
    let joined = c.join.ensures in
    record {
      leaves = λ plan marks ready d. leaves_joined g.P.Work.asks has mid (g.B.Tasks.at c.join-other.result.0) (g.B.Tasks.at c.join.new.seat) (λ p. (manned p).manned.first) (λ p. (manned p).manned.known) joined.joined joined.own_seen joined.known
          plan c.args.steps.now (known_in ends) c.join-other.result.1.0
          (ran.leaves plan marks ready (going_split has plan [] (known_in c.args.ends.items) old split kept d));
      known = ran.known;
      learns = record {
        more = ran.learns.more;
        whole = λ w. pieces_on g.P.Work.stands home mid (g.B.Tasks.at c.join.new.seat) ends joined.own_seen (λ p. ap (λ s. s.root) (joined.joined p)) (λ p. (returns-clause-manned g t c p).manned.lawful.run.run)
            (ran.learns.whole (pieces_split g.P.Work.stands home old split c.args.ends.items kept w));
      };
    }

pub returns-then-workers-eq0-clause-ran : goal.returns-then-workers-eq0-clause-ran
returns-then-workers-eq0-clause-ran g t c = c.alone.ensures.ran

pub returns-then-workers-eq0-clause-manned : goal.returns-then-workers-eq0-clause-manned
returns-then-workers-eq0-clause-manned g t c p =
    let none : 0 ≡ c.args.workers = search rules in
    subst (λ n. MannedBy g.P.Work.asks (MayLose (g.E.Engine.refused c.args.scan.now.engine.now) (g.E.Engine.unlisted c.args.scan.now.engine.now (g.E.Engine.refused c.args.scan.now.engine.now)) g.P.Work.refuses (g.P.Work.stands (g.E.Engine.root c.args.scan.now.engine.now))) n (g.B.Tasks.at c.args.seat p) (g.B.Tasks.at c.alone.result.2 p)) none (c.alone.ensures.manned p)

pub fn::manned::join+arg3+FnOnce::call_once-join+arg3-requires : goal.fn::manned::join+arg3+FnOnce::call_once-join+arg3-requires
fn::manned::join+arg3+FnOnce::call_once-join+arg3-requires g t c κs within =
    let e = c.requires.1.1.1.1.1.1.1.1.1 in
    let s = e.1.1.1.1 in
    (search rules, (within.0, (within.1.0, (within.1.1.0, (within.1.1.1.0, (within.1.1.1.1.0, (within.1.1.1.1.1.0, (within.1.1.1.1.1.1.0, (within.1.1.1.1.1.1.1.0, (within.1.1.1.1.1.1.1.1, (s.0, (s.1, (s.2, (s.3, (s.4, (s.5, (s.6, (s.7, (s.8, (e.0, (e.1.0, (e.1.1.0, e.1.1.1.0))))))))))))))))))))))
