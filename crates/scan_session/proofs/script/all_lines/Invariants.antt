use Rattle.std.proofs.Common.{◌≡◌, [], take, length}
use Rattle.scan_session.specs.Plans.{Plans}
use Rattle.scan_session.specs.Places.{GoingAll, AllFit}
use Rattle.scan_worker.specs.Missing.{MayLose}
use Rattle.scan_session.specs.Seats.{Stays}
use Rattle.scan_session.specs.KnownEnds.{known_in, Marks, Ready}
use Rattle.scan_session.specs.Czars.{Learns}
use Rattle.scan_session.proofs.script.all_lines.Given as goal

abbrev pub invariant-loop-step : goal.invariant-loop-step
invariant-loop-step g l = record {
  stays : (p : _) → Stays g.P.Work.asks (MayLose (g.E.Engine.refused l.fn.scan.engine.now) (g.E.Engine.unlisted l.fn.scan.engine.now (g.E.Engine.refused l.fn.scan.engine.now)) g.P.Work.refuses (g.P.Work.stands (g.E.Engine.root l.fn.scan.engine.now))) (g.B.Tasks.at l.fn.seat p) (g.B.Tasks.at l.seat p);
  learns : Learns g.P.Work.stands (g.B.Boards.home l.fn.scan.boards.now) (g.B.Tasks.at l.fn.seat) (g.B.Tasks.at l.seat) l.fn.ends l.ends;
  len : length l.plans ≡ length l.fn.ends;
  fit : AllFit g.P.Work.stands g.P.Work.asks (g.B.Boards.suits l.fn.scan.boards.now) (g.B.Tasks.at l.seat) l.plans;
  ready : (plan : Plans) → Ready plan [] l.fn.plans → Ready plan (take l.step-index l.steps) l.plans;
  drives : (plan : Plans) → Marks plan l.fn.ends → Ready plan [] l.fn.plans → GoingAll (g.B.Boards.has l.fn.scan.boards.now) plan [] (g.B.Tasks.at l.fn.seat) (known_in l.fn.ends) → GoingAll (g.B.Boards.has l.fn.scan.boards.now) plan (take l.step-index l.steps) (g.B.Tasks.at l.seat) (known_in l.ends);
}
