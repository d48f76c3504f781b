use Rattle.std.proofs.Common.{inl, refl, subst}
use Rattle.scan_core.specs.Answers.{AnswersTake, IfTask}
use Rattle.scan_core.specs.declared.answers.Take.{Take}
use Rattle.scan_board.specs.Calls.{Called, HasTask, IsAskedFor}
use Rattle.scan_boards.proofs.Inspecting.{ended_closed, ended_found, idle_found, idle_open}
use Rattle.scan_boards.proofs.tasks.SharedBoardTasks.take.Goals as goal

pub returns-in-Task : goal.returns-in-Task
returns-in-Task g c =
    let old = c.args.seat in
    let new = c.take-taken.result.1 in
    record {
      answer = record {
        called = subst (λ (t : Take). Called g.P.Work.asks (λ before after. AnswersTake old.number before t after) old new) c.in-Task.is c.take-taken.ensures.called;
        holds = subst (λ (t : Take). IfTask t (λ task. HasTask new task)) c.in-Task.is c.take-taken.ensures.holds;
        asked = subst (λ (t : Take). IfTask t (λ task. IsAskedFor g.P.Work.asks old task)) c.in-Task.is c.take-taken.ensures.asked;
        others = λ p. inl refl;
      };
    }

pub returns-in-Idle : goal.returns-in-Idle
returns-in-Idle g c =
    let old = c.args.seat in
    let new = c.take-taken.result.1 in
    let called = subst (λ (t : Take). Called g.P.Work.asks (λ before after. AnswersTake old.number before t after) old new) c.in-Idle.is c.take-taken.ensures.called in
    record { answer = (λ p. idle_found g.P.Work.asks old new called, (tt, idle_open g.P.Work.asks old new called)) }

pub returns-in-Ended : goal.returns-in-Ended
returns-in-Ended g c =
    let old = c.args.seat in
    let new = c.take-taken.result.1 in
    let called = subst (λ (t : Take). Called g.P.Work.asks (λ before after. AnswersTake old.number before t after) old new) c.in-Ended.is c.take-taken.ensures.called in
    record { answer = (λ p. ended_found g.P.Work.asks old new called, λ p. ended_closed g.P.Work.asks old new called) }

pub take-taken-requires : goal.take-taken-requires
take-taken-requires g c = record { own = c.requires.own tt }
