use Rattle.std.proofs.Common.{ap, sym, subst, is_some, ◌≤◌}
use Rattle.scan_core.specs.declared.answers.Attach.TheVariants as attach
use Rattle.scan_core.specs.Answers.{AnswersAttach}
use Rattle.scan_rules.specs.Queries.{Journal}
use Rattle.scan_rules.specs.Runs.{MayAttach}
use Rattle.scan_rules.specs.Scan.{running_count}
use Rattle.scan_session.specs.Places.{only}
use Rattle.scan_worker.specs.Missing.{MayLose}
use Rattle.scan_session.proofs.Calling.{odd_again, odd_closed, stays_on}
use Rattle.scan_session.proofs.Placing.{attached_goes, attached_stays, called_as, czars_on, full_goes, none_goes, none_stays, work_stays}
use Rattle.scan_session.proofs.steps.try_start.Goals as goal

pub returns-in-Attached-clause-goes : goal.returns-in-Attached-clause-goes
returns-in-Attached-clause-goes g c plan done ends span free planned d =
    let asks = g.P.Work.asks in
    let may = MayLose (g.E.Engine.refused c.args.scan.now.engine.now) (g.E.Engine.unlisted c.args.scan.now.engine.now (g.E.Engine.refused c.args.scan.now.engine.now)) g.P.Work.refuses (g.P.Work.stands (g.E.Engine.root c.args.scan.now.engine.now)) in
    let boards = c.args.scan.now.boards.now in
    let has = g.B.Boards.has boards in
    let q = c.args.q in
    let chunks = c.args.planned.chunks in
    let empty = c.args.planned.empty in
    let old = g.B.Tasks.at c.args.seat in
    let mid = g.B.Tasks.at c.attach-answer.result.1 in
    let called = called_as asks has q chunks empty old mid c.attach-answer.result.0 attach.Attached c.in-Attached.is c.attach-answer.ensures.called in
    attached_goes asks has q chunks empty old mid c.requires.seats.czar c.attach-answer.ensures.others called plan done ends span planned d

pub returns-in-Attached-clause-stays : goal.returns-in-Attached-clause-stays
returns-in-Attached-clause-stays g c =
    let asks = g.P.Work.asks in
    let may = MayLose (g.E.Engine.refused c.args.scan.now.engine.now) (g.E.Engine.unlisted c.args.scan.now.engine.now (g.E.Engine.refused c.args.scan.now.engine.now)) g.P.Work.refuses (g.P.Work.stands (g.E.Engine.root c.args.scan.now.engine.now)) in
    let boards = c.args.scan.now.boards.now in
    let has = g.B.Boards.has boards in
    let q = c.args.q in
    let chunks = c.args.planned.chunks in
    let empty = c.args.planned.empty in
    let old = g.B.Tasks.at c.args.seat in
    let mid = g.B.Tasks.at c.attach-answer.result.1 in
    let called = called_as asks has q chunks empty old mid c.attach-answer.result.0 attach.Attached c.in-Attached.is c.attach-answer.ensures.called in
    attached_stays asks has q chunks empty old mid c.requires.seats.czar c.attach-answer.ensures.others may called

pub returns-in-Full-clause-goes : goal.returns-in-Full-clause-goes
returns-in-Full-clause-goes g c plan done ends span free planned d =
    let asks = g.P.Work.asks in
    let may = MayLose (g.E.Engine.refused c.args.scan.now.engine.now) (g.E.Engine.unlisted c.args.scan.now.engine.now (g.E.Engine.refused c.args.scan.now.engine.now)) g.P.Work.refuses (g.P.Work.stands (g.E.Engine.root c.args.scan.now.engine.now)) in
    let boards = c.args.scan.now.boards.now in
    let has = g.B.Boards.has boards in
    let q = c.args.q in
    let chunks = c.args.planned.chunks in
    let empty = c.args.planned.empty in
    let old = g.B.Tasks.at c.args.seat in
    let mid = g.B.Tasks.at c.attach-answer.result.1 in
    let called = called_as asks has q chunks empty old mid c.attach-answer.result.0 (attach.Full c.in-Full.chunks c.in-Full.empty) c.in-Full.is c.attach-answer.ensures.called in
    let home = g.B.Boards.home boards q in
    let here = g.met.B.Boards.housed boards q in
    let stays = none_stays asks has q old mid c.requires.seats.czar c.attach-answer.ensures.others (λ p before after. AnswersAttach (old p).number before q chunks empty (attach.Full c.in-Full.chunks c.in-Full.empty) after) called (λ p t. ap (λ b. b.past) (called p t).answer.3.same) may in
    let full = subst (λ (l : Journal). 64 ≤ running_count l) (sym (ap (λ b. b.past) (called home here).answer.3.same)) (called home here).answer.2 in
    full_goes asks has plan done ends mid (g.B.Tasks.at c.work.result) home q here (λ p. (stays p).czar) full free c.requires.from_1 (ap is_some planned)
    c.work.ensures.worked c.work.ensures.observed
    (none_goes asks has q old mid c.requires.seats.czar c.attach-answer.ensures.others (λ p before after. AnswersAttach (old p).number before q chunks empty (attach.Full c.in-Full.chunks c.in-Full.empty) after) called (λ p t. ap (λ b. b.past) (called p t).answer.3.same) plan done ends d)

pub returns-in-Full-clause-stays : goal.returns-in-Full-clause-stays
returns-in-Full-clause-stays g c p =
    let asks = g.P.Work.asks in
    let may = MayLose (g.E.Engine.refused c.args.scan.now.engine.now) (g.E.Engine.unlisted c.args.scan.now.engine.now (g.E.Engine.refused c.args.scan.now.engine.now)) g.P.Work.refuses (g.P.Work.stands (g.E.Engine.root c.args.scan.now.engine.now)) in
    let boards = c.args.scan.now.boards.now in
    let has = g.B.Boards.has boards in
    let q = c.args.q in
    let chunks = c.args.planned.chunks in
    let empty = c.args.planned.empty in
    let old = g.B.Tasks.at c.args.seat in
    let mid = g.B.Tasks.at c.attach-answer.result.1 in
    let called = called_as asks has q chunks empty old mid c.attach-answer.result.0 (attach.Full c.in-Full.chunks c.in-Full.empty) c.in-Full.is c.attach-answer.ensures.called in
    let new = g.B.Tasks.at c.work.result in
    let stays = none_stays asks has q old mid c.requires.seats.czar c.attach-answer.ensures.others (λ p before after. AnswersAttach (old p).number before q chunks empty (attach.Full c.in-Full.chunks c.in-Full.empty) after) called (λ p t. ap (λ b. b.past) (called p t).answer.3.same) may in
    stays_on asks (old p) (mid p) (new p) (stays p) (work_stays asks has mid new (λ o. (stays o).czar) c.work.ensures.worked c.work.ensures.observed c.work.ensures.lost p)

pub returns-in-Closed-clause-stays : goal.returns-in-Closed-clause-stays
returns-in-Closed-clause-stays g c =
    let asks = g.P.Work.asks in
    let may = MayLose (g.E.Engine.refused c.args.scan.now.engine.now) (g.E.Engine.unlisted c.args.scan.now.engine.now (g.E.Engine.refused c.args.scan.now.engine.now)) g.P.Work.refuses (g.P.Work.stands (g.E.Engine.root c.args.scan.now.engine.now)) in
    let boards = c.args.scan.now.boards.now in
    let has = g.B.Boards.has boards in
    let q = c.args.q in
    let chunks = c.args.planned.chunks in
    let empty = c.args.planned.empty in
    let old = g.B.Tasks.at c.args.seat in
    let mid = g.B.Tasks.at c.attach-answer.result.1 in
    let called = called_as asks has q chunks empty old mid c.attach-answer.result.0 (attach.Closed c.in-Closed.chunks c.in-Closed.empty) c.in-Closed.is c.attach-answer.ensures.called in
    none_stays asks has q old mid c.requires.seats.czar c.attach-answer.ensures.others (λ p before after. AnswersAttach (old p).number before q chunks empty (attach.Closed c.in-Closed.chunks c.in-Closed.empty) after) called (λ p t. ap (λ b. b.past) (called p t).answer.1.same) may

pub returns-clause-stays : goal.returns-clause-stays
returns-clause-stays g c =
    let asks = g.P.Work.asks in
    let may = MayLose (g.E.Engine.refused c.args.scan.now.engine.now) (g.E.Engine.unlisted c.args.scan.now.engine.now (g.E.Engine.refused c.args.scan.now.engine.now)) g.P.Work.refuses (g.P.Work.stands (g.E.Engine.root c.args.scan.now.engine.now)) in
    let boards = c.args.scan.now.boards.now in
    let has = g.B.Boards.has boards in
    let q = c.args.q in
    let chunks = c.args.planned.chunks in
    let empty = c.args.planned.empty in
    let old = g.B.Tasks.at c.args.seat in
    let mid = g.B.Tasks.at c.attach-answer.result.1 in
    let called = called_as asks has q chunks empty old mid c.attach-answer.result.0 (attach.Again c.in-Again.chunks c.in-Again.empty) c.in-Again.is c.attach-answer.ensures.called in
    none_stays asks has q old mid c.requires.seats.czar c.attach-answer.ensures.others (λ p before after. AnswersAttach (old p).number before q chunks empty (attach.Again c.in-Again.chunks c.in-Again.empty) after) called (λ p t. ap (λ b. b.past) (called p t).answer.2.same) may

pub returns-in-Memory-clause-stays : goal.returns-in-Memory-clause-stays
returns-in-Memory-clause-stays g c =
    let asks = g.P.Work.asks in
    let may = MayLose (g.E.Engine.refused c.args.scan.now.engine.now) (g.E.Engine.unlisted c.args.scan.now.engine.now (g.E.Engine.refused c.args.scan.now.engine.now)) g.P.Work.refuses (g.P.Work.stands (g.E.Engine.root c.args.scan.now.engine.now)) in
    let boards = c.args.scan.now.boards.now in
    let has = g.B.Boards.has boards in
    let q = c.args.q in
    let chunks = c.args.planned.chunks in
    let empty = c.args.planned.empty in
    let old = g.B.Tasks.at c.args.seat in
    let mid = g.B.Tasks.at c.attach-answer.result.1 in
    let called = called_as asks has q chunks empty old mid c.attach-answer.result.0 (attach.Memory c.in-Memory.chunks c.in-Memory.empty) c.in-Memory.is c.attach-answer.ensures.called in
    none_stays asks has q old mid c.requires.seats.czar c.attach-answer.ensures.others (λ p before after. AnswersAttach (old p).number before q chunks empty (attach.Memory c.in-Memory.chunks c.in-Memory.empty) after) called (λ p t. ap (λ b. b.past) (called p t).answer.1.same) may

pub returns-in-Closed-clause-goes : goal.returns-in-Closed-clause-goes
returns-in-Closed-clause-goes g c plan done ends span free planned d =
    let asks = g.P.Work.asks in
    let may = MayLose (g.E.Engine.refused c.args.scan.now.engine.now) (g.E.Engine.unlisted c.args.scan.now.engine.now (g.E.Engine.refused c.args.scan.now.engine.now)) g.P.Work.refuses (g.P.Work.stands (g.E.Engine.root c.args.scan.now.engine.now)) in
    let boards = c.args.scan.now.boards.now in
    let has = g.B.Boards.has boards in
    let q = c.args.q in
    let chunks = c.args.planned.chunks in
    let empty = c.args.planned.empty in
    let old = g.B.Tasks.at c.args.seat in
    let mid = g.B.Tasks.at c.attach-answer.result.1 in
    let called = called_as asks has q chunks empty old mid c.attach-answer.result.0 (attach.Closed c.in-Closed.chunks c.in-Closed.empty) c.in-Closed.is c.attach-answer.ensures.called in
    let home = g.B.Boards.home boards q in
    let here = g.met.B.Boards.housed boards q in
    (home, odd_closed asks (only (has home) plan) done (only (has home) ends) (old home) (mid home) (c.requires.seats.czar home) (called home here) (ap (λ b. b.past) (called home here).answer.1.same) (called home here).answer.0 (d home).drives)

pub returns-clause-goes : goal.returns-clause-goes
returns-clause-goes g c plan done ends span free planned d =
    let asks = g.P.Work.asks in
    let may = MayLose (g.E.Engine.refused c.args.scan.now.engine.now) (g.E.Engine.unlisted c.args.scan.now.engine.now (g.E.Engine.refused c.args.scan.now.engine.now)) g.P.Work.refuses (g.P.Work.stands (g.E.Engine.root c.args.scan.now.engine.now)) in
    let boards = c.args.scan.now.boards.now in
    let has = g.B.Boards.has boards in
    let q = c.args.q in
    let chunks = c.args.planned.chunks in
    let empty = c.args.planned.empty in
    let old = g.B.Tasks.at c.args.seat in
    let mid = g.B.Tasks.at c.attach-answer.result.1 in
    let called = called_as asks has q chunks empty old mid c.attach-answer.result.0 (attach.Again c.in-Again.chunks c.in-Again.empty) c.in-Again.is c.attach-answer.ensures.called in
    let home = g.B.Boards.home boards q in
    let here = g.met.B.Boards.housed boards q in
    (home, odd_again asks (only (has home) plan) done (only (has home) ends) (old home) (mid home) q (c.requires.seats.czar home) (called home here) (ap (λ b. b.past) (called home here).answer.2.same) (called home here).answer.1 free (d home).drives)

pub returns-in-Full-clause-full : goal.returns-in-Full-clause-full
returns-in-Full-clause-full g c k =
    let asks = g.P.Work.asks in
    let may = MayLose (g.E.Engine.refused c.args.scan.now.engine.now) (g.E.Engine.unlisted c.args.scan.now.engine.now (g.E.Engine.refused c.args.scan.now.engine.now)) g.P.Work.refuses (g.P.Work.stands (g.E.Engine.root c.args.scan.now.engine.now)) in
    let boards = c.args.scan.now.boards.now in
    let has = g.B.Boards.has boards in
    let q = c.args.q in
    let chunks = c.args.planned.chunks in
    let empty = c.args.planned.empty in
    let old = g.B.Tasks.at c.args.seat in
    let mid = g.B.Tasks.at c.attach-answer.result.1 in
    let called = called_as asks has q chunks empty old mid c.attach-answer.result.0 (attach.Full c.in-Full.chunks c.in-Full.empty) c.in-Full.is c.attach-answer.ensures.called in
    let back = (called (g.B.Boards.home boards q) (g.met.B.Boards.housed boards q)).answer.3 in
    record { chunks = back.chunks_back k; empty = back.piece_back k }

pub work-requires : goal.work-requires
work-requires g c =
    let asks = g.P.Work.asks in
    let may = MayLose (g.E.Engine.refused c.args.scan.now.engine.now) (g.E.Engine.unlisted c.args.scan.now.engine.now (g.E.Engine.refused c.args.scan.now.engine.now)) g.P.Work.refuses (g.P.Work.stands (g.E.Engine.root c.args.scan.now.engine.now)) in
    let boards = c.args.scan.now.boards.now in
    let has = g.B.Boards.has boards in
    let q = c.args.q in
    let chunks = c.args.planned.chunks in
    let empty = c.args.planned.empty in
    let old = g.B.Tasks.at c.args.seat in
    let mid = g.B.Tasks.at c.attach-answer.result.1 in
    let called = called_as asks has q chunks empty old mid c.attach-answer.result.0 (attach.Full c.in-Full.chunks c.in-Full.empty) c.in-Full.is c.attach-answer.ensures.called in
    let stays = none_stays asks has q old mid c.requires.seats.czar c.attach-answer.ensures.others (λ p before after. AnswersAttach (old p).number before q chunks empty (attach.Full c.in-Full.chunks c.in-Full.empty) after) called (λ p t. ap (λ b. b.past) (called p t).answer.3.same) may in
    czars_on asks (g.B.Tasks.turn boards) (g.E.Engine.root c.args.scan.now.engine.now) old mid c.requires.seats stays

pub returns-in-Memory-clause-goes : goal.returns-in-Memory-clause-goes
returns-in-Memory-clause-goes g c plan done ends span free planned d =
    let asks = g.P.Work.asks in
    let boards = c.args.scan.now.boards.now in
    let has = g.B.Boards.has boards in
    let q = c.args.q in
    let chunks = c.args.planned.chunks in
    let empty = c.args.planned.empty in
    let old = g.B.Tasks.at c.args.seat in
    let mid = g.B.Tasks.at c.attach-answer.result.1 in
    let called = called_as asks has q chunks empty old mid c.attach-answer.result.0 (attach.Memory c.in-Memory.chunks c.in-Memory.empty) c.in-Memory.is c.attach-answer.ensures.called in
    none_goes asks has q old mid c.requires.seats.czar c.attach-answer.ensures.others (λ p before after. AnswersAttach (old p).number before q chunks empty (attach.Memory c.in-Memory.chunks c.in-Memory.empty) after) called (λ p t. ap (λ b. b.past) (called p t).answer.1.same) plan done ends d

pub returns-in-Memory-clause-room : goal.returns-in-Memory-clause-room
returns-in-Memory-clause-room g c =
    let asks = g.P.Work.asks in
    let may = MayLose (g.E.Engine.refused c.args.scan.now.engine.now) (g.E.Engine.unlisted c.args.scan.now.engine.now (g.E.Engine.refused c.args.scan.now.engine.now)) g.P.Work.refuses (g.P.Work.stands (g.E.Engine.root c.args.scan.now.engine.now)) in
    let boards = c.args.scan.now.boards.now in
    let has = g.B.Boards.has boards in
    let q = c.args.q in
    let chunks = c.args.planned.chunks in
    let empty = c.args.planned.empty in
    let old = g.B.Tasks.at c.args.seat in
    let mid = g.B.Tasks.at c.attach-answer.result.1 in
    let home = g.B.Boards.home boards q in
    let here = g.met.B.Boards.housed boards q in
    let called = called_as asks has q chunks empty old mid c.attach-answer.result.0 (attach.Memory c.in-Memory.chunks c.in-Memory.empty) c.in-Memory.is c.attach-answer.ensures.called in
    let stays = none_stays asks has q old mid c.requires.seats.czar c.attach-answer.ensures.others (λ p before after. AnswersAttach (old p).number before q chunks empty (attach.Memory c.in-Memory.chunks c.in-Memory.empty) after) called (λ p t. ap (λ b. b.past) (called p t).answer.1.same) may in
    let answer = (called home here).answer in
    subst (λ r. MayAttach r.ring (mid home).seen q chunks) (sym (stays home).root)
    (subst (λ (l : Journal). MayAttach (old home).root.ring l q chunks) (sym (ap (λ b. b.past) answer.1.same)) answer.0)
