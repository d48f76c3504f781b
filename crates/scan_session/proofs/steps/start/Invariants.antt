use Rattle.std.proofs.Common.{◌≡◌, ℕ, List, Option, Some, false}
use Rattle.std.specs.List.{list_any}
use Rattle.session_script.specs.declared.step.Step.{Step}
use Rattle.session_rules.specs.Ends.{asks}
use Rattle.scan_rules.specs.Queries.{QueryState}
use Rattle.scan_session.specs.Plans.{Plans}
use Rattle.scan_session.specs.Places.{GoingAll}
use Rattle.scan_worker.specs.Missing.{MayLose}
use Rattle.scan_session.specs.Seats.{Stays}
use Rattle.scan_session.proofs.steps.start.Given as goal

abbrev pub invariant-loop : goal.invariant-loop
invariant-loop g l = record {
  can : (goal.iterator-loop g).can_next l.iterator';
  finite : (goal.iterator-loop g).is_finite l.iterator';
  stays : (p : _) → Stays g.P.Work.asks (MayLose (g.E.Engine.refused l.fn.scan.engine.now) (g.E.Engine.unlisted l.fn.scan.engine.now (g.E.Engine.refused l.fn.scan.engine.now)) g.P.Work.refuses (g.P.Work.stands (g.E.Engine.root l.fn.scan.engine.now))) (g.B.Tasks.at l.fn.seat p) (g.B.Tasks.at l.seat p);
  same : l.planned ≡ l.fn.planned;
  drives : (plan : Plans) (done : List Step) (ends : ℕ → Option QueryState) → list_any (asks l.fn.q) done ≡ false → plan l.fn.q ≡ Some l.fn.planned.chunks
      → GoingAll (g.B.Boards.has l.fn.scan.boards.now) plan done (g.B.Tasks.at l.fn.seat) ends → GoingAll (g.B.Boards.has l.fn.scan.boards.now) plan done (g.B.Tasks.at l.seat) ends;
}
