use Rattle.std.proofs.Common.{ap, is_some, ◌∙◌}
use Rattle.scan_core.specs.declared.answers.Collect.TheVariants as collect
use Rattle.scan_core.specs.Answers.{AnswersCollect}
use Rattle.scan_rules.specs.Queries.{Done, Cancelled, Spent}
use Rattle.scan_session.specs.Places.{only}
use Rattle.scan_worker.specs.Missing.{MayLose}
use Rattle.scan_session.proofs.Calling.{odd_gone, piece_whole, stays_on}
use Rattle.scan_session.proofs.Placing.{collected_as, czars_on, here_is, none_drives, none_stays, told_drives, told_stays, work_drives, work_stays}
use Rattle.scan_session.proofs.steps.ask_end.Goals as goal

pub returns-in-Piece-clause-goes : goal.returns-in-Piece-clause-goes
returns-in-Piece-clause-goes g c plan done ends started planned none d =
    let asks = g.P.Work.asks in
    let may = MayLose (g.E.Engine.refused c.args.scan.now.engine.now) (g.E.Engine.unlisted c.args.scan.now.engine.now (g.E.Engine.refused c.args.scan.now.engine.now)) g.P.Work.refuses (g.P.Work.stands (g.E.Engine.root c.args.scan.now.engine.now)) in
    let boards = c.args.scan.now.boards.now in
    let has = g.B.Boards.has boards in
    let q = c.args.q in
    let old = g.B.Tasks.at c.args.seat in
    let mid = g.B.Tasks.at c.collect-answer.result.1 in
    let called = collected_as asks has g.P.Work.stands q old mid c.collect-answer.result.0 (collect.Piece c.in-Piece.piece) c.in-Piece.is c.collect-answer.ensures.called in
    told_drives asks has q Done old mid c.requires.czar c.collect-answer.ensures.others (λ p before after. AnswersCollect g.P.Work.stands (old p).number before q (collect.Piece c.in-Piece.piece) after) called (λ p t. ap (λ b. b.past) (called p t).answer.0.line) (λ p t. (called p t).answer.0.ended) plan done ends d

pub returns-in-Piece-clause-stays : goal.returns-in-Piece-clause-stays
returns-in-Piece-clause-stays g c =
    let asks = g.P.Work.asks in
    let may = MayLose (g.E.Engine.refused c.args.scan.now.engine.now) (g.E.Engine.unlisted c.args.scan.now.engine.now (g.E.Engine.refused c.args.scan.now.engine.now)) g.P.Work.refuses (g.P.Work.stands (g.E.Engine.root c.args.scan.now.engine.now)) in
    let boards = c.args.scan.now.boards.now in
    let has = g.B.Boards.has boards in
    let q = c.args.q in
    let old = g.B.Tasks.at c.args.seat in
    let mid = g.B.Tasks.at c.collect-answer.result.1 in
    let called = collected_as asks has g.P.Work.stands q old mid c.collect-answer.result.0 (collect.Piece c.in-Piece.piece) c.in-Piece.is c.collect-answer.ensures.called in
    told_stays asks has q Done old mid c.requires.czar c.collect-answer.ensures.others (λ p before after. AnswersCollect g.P.Work.stands (old p).number before q (collect.Piece c.in-Piece.piece) after) called (λ p t. ap (λ b. b.past) (called p t).answer.0.line) may

pub returns-in-Cancelled-clause-goes : goal.returns-in-Cancelled-clause-goes
returns-in-Cancelled-clause-goes g c plan done ends started planned none d =
    let asks = g.P.Work.asks in
    let may = MayLose (g.E.Engine.refused c.args.scan.now.engine.now) (g.E.Engine.unlisted c.args.scan.now.engine.now (g.E.Engine.refused c.args.scan.now.engine.now)) g.P.Work.refuses (g.P.Work.stands (g.E.Engine.root c.args.scan.now.engine.now)) in
    let boards = c.args.scan.now.boards.now in
    let has = g.B.Boards.has boards in
    let q = c.args.q in
    let old = g.B.Tasks.at c.args.seat in
    let mid = g.B.Tasks.at c.collect-answer.result.1 in
    let called = collected_as asks has g.P.Work.stands q old mid c.collect-answer.result.0 collect.Cancelled c.in-Cancelled.is c.collect-answer.ensures.called in
    told_drives asks has q Cancelled old mid c.requires.czar c.collect-answer.ensures.others (λ p before after. AnswersCollect g.P.Work.stands (old p).number before q collect.Cancelled after) called (λ p t. ap (λ b. b.past) (called p t).answer.line) (λ p t. (called p t).answer.ended) plan done ends d

pub returns-in-Cancelled-clause-stays : goal.returns-in-Cancelled-clause-stays
returns-in-Cancelled-clause-stays g c =
    let asks = g.P.Work.asks in
    let may = MayLose (g.E.Engine.refused c.args.scan.now.engine.now) (g.E.Engine.unlisted c.args.scan.now.engine.now (g.E.Engine.refused c.args.scan.now.engine.now)) g.P.Work.refuses (g.P.Work.stands (g.E.Engine.root c.args.scan.now.engine.now)) in
    let boards = c.args.scan.now.boards.now in
    let has = g.B.Boards.has boards in
    let q = c.args.q in
    let old = g.B.Tasks.at c.args.seat in
    let mid = g.B.Tasks.at c.collect-answer.result.1 in
    let called = collected_as asks has g.P.Work.stands q old mid c.collect-answer.result.0 collect.Cancelled c.in-Cancelled.is c.collect-answer.ensures.called in
    told_stays asks has q Cancelled old mid c.requires.czar c.collect-answer.ensures.others (λ p before after. AnswersCollect g.P.Work.stands (old p).number before q collect.Cancelled after) called (λ p t. ap (λ b. b.past) (called p t).answer.line) may

pub returns-in-Spent-clause-goes : goal.returns-in-Spent-clause-goes
returns-in-Spent-clause-goes g c plan done ends started planned none d =
    let asks = g.P.Work.asks in
    let may = MayLose (g.E.Engine.refused c.args.scan.now.engine.now) (g.E.Engine.unlisted c.args.scan.now.engine.now (g.E.Engine.refused c.args.scan.now.engine.now)) g.P.Work.refuses (g.P.Work.stands (g.E.Engine.root c.args.scan.now.engine.now)) in
    let boards = c.args.scan.now.boards.now in
    let has = g.B.Boards.has boards in
    let q = c.args.q in
    let old = g.B.Tasks.at c.args.seat in
    let mid = g.B.Tasks.at c.collect-answer.result.1 in
    let called = collected_as asks has g.P.Work.stands q old mid c.collect-answer.result.0 collect.Spent c.in-Spent.is c.collect-answer.ensures.called in
    told_drives asks has q Spent old mid c.requires.czar c.collect-answer.ensures.others (λ p before after. AnswersCollect g.P.Work.stands (old p).number before q collect.Spent after) called (λ p t. ap (λ b. b.past) (called p t).answer.line) (λ p t. (called p t).answer.ended) plan done ends d

pub returns-in-Spent-clause-stays : goal.returns-in-Spent-clause-stays
returns-in-Spent-clause-stays g c =
    let asks = g.P.Work.asks in
    let may = MayLose (g.E.Engine.refused c.args.scan.now.engine.now) (g.E.Engine.unlisted c.args.scan.now.engine.now (g.E.Engine.refused c.args.scan.now.engine.now)) g.P.Work.refuses (g.P.Work.stands (g.E.Engine.root c.args.scan.now.engine.now)) in
    let boards = c.args.scan.now.boards.now in
    let has = g.B.Boards.has boards in
    let q = c.args.q in
    let old = g.B.Tasks.at c.args.seat in
    let mid = g.B.Tasks.at c.collect-answer.result.1 in
    let called = collected_as asks has g.P.Work.stands q old mid c.collect-answer.result.0 collect.Spent c.in-Spent.is c.collect-answer.ensures.called in
    told_stays asks has q Spent old mid c.requires.czar c.collect-answer.ensures.others (λ p before after. AnswersCollect g.P.Work.stands (old p).number before q collect.Spent after) called (λ p t. ap (λ b. b.past) (called p t).answer.line) may

pub returns-in-NotYet-clause-goes : goal.returns-in-NotYet-clause-goes
returns-in-NotYet-clause-goes g c plan done ends started planned none d =
    let asks = g.P.Work.asks in
    let may = MayLose (g.E.Engine.refused c.args.scan.now.engine.now) (g.E.Engine.unlisted c.args.scan.now.engine.now (g.E.Engine.refused c.args.scan.now.engine.now)) g.P.Work.refuses (g.P.Work.stands (g.E.Engine.root c.args.scan.now.engine.now)) in
    let boards = c.args.scan.now.boards.now in
    let has = g.B.Boards.has boards in
    let q = c.args.q in
    let old = g.B.Tasks.at c.args.seat in
    let mid = g.B.Tasks.at c.collect-answer.result.1 in
    let called = collected_as asks has g.P.Work.stands q old mid c.collect-answer.result.0 collect.NotYet c.in-NotYet.is c.collect-answer.ensures.called in
    let stays = none_stays asks has q old mid c.requires.czar c.collect-answer.ensures.others (λ p before after. AnswersCollect g.P.Work.stands (old p).number before q collect.NotYet after) called (λ p t. ap (λ b. b.past) (called p t).answer.1) may in
    work_drives asks has plan done ends mid (g.B.Tasks.at c.work.result) (λ p. (stays p).czar) c.work.ensures.worked c.work.ensures.observed
    (none_drives asks has q old mid c.requires.czar c.collect-answer.ensures.others (λ p before after. AnswersCollect g.P.Work.stands (old p).number before q collect.NotYet after) called (λ p t. ap (λ b. b.past) (called p t).answer.1) plan done ends d)

pub returns-in-NotYet-clause-stays : goal.returns-in-NotYet-clause-stays
returns-in-NotYet-clause-stays g c p =
    let asks = g.P.Work.asks in
    let may = MayLose (g.E.Engine.refused c.args.scan.now.engine.now) (g.E.Engine.unlisted c.args.scan.now.engine.now (g.E.Engine.refused c.args.scan.now.engine.now)) g.P.Work.refuses (g.P.Work.stands (g.E.Engine.root c.args.scan.now.engine.now)) in
    let boards = c.args.scan.now.boards.now in
    let has = g.B.Boards.has boards in
    let q = c.args.q in
    let old = g.B.Tasks.at c.args.seat in
    let mid = g.B.Tasks.at c.collect-answer.result.1 in
    let called = collected_as asks has g.P.Work.stands q old mid c.collect-answer.result.0 collect.NotYet c.in-NotYet.is c.collect-answer.ensures.called in
    let new = g.B.Tasks.at c.work.result in
    let stays = none_stays asks has q old mid c.requires.czar c.collect-answer.ensures.others (λ p before after. AnswersCollect g.P.Work.stands (old p).number before q collect.NotYet after) called (λ p t. ap (λ b. b.past) (called p t).answer.1) may in
    stays_on asks (old p) (mid p) (new p) (stays p) (work_stays asks has mid new (λ o. (stays o).czar) c.work.ensures.worked c.work.ensures.observed c.work.ensures.lost p)

pub returns-in-Gone-clause-goes : goal.returns-in-Gone-clause-goes
returns-in-Gone-clause-goes g c plan done ends started planned none d =
    let asks = g.P.Work.asks in
    let may = MayLose (g.E.Engine.refused c.args.scan.now.engine.now) (g.E.Engine.unlisted c.args.scan.now.engine.now (g.E.Engine.refused c.args.scan.now.engine.now)) g.P.Work.refuses (g.P.Work.stands (g.E.Engine.root c.args.scan.now.engine.now)) in
    let boards = c.args.scan.now.boards.now in
    let has = g.B.Boards.has boards in
    let q = c.args.q in
    let old = g.B.Tasks.at c.args.seat in
    let mid = g.B.Tasks.at c.collect-answer.result.1 in
    let called = collected_as asks has g.P.Work.stands q old mid c.collect-answer.result.0 collect.Gone c.in-Gone.is c.collect-answer.ensures.called in
    let home = g.B.Boards.home boards q in
    let here = g.met.B.Boards.housed boards q in (
      home,
      odd_gone asks (only (has home) plan) done (only (has home) ends) (old home) (mid home) q (c.requires.czar home) (called home here) (ap (λ b. b.past) (called home here).answer.1) (called home here).answer.0
          started (ap is_some (here_is (has home) plan q here) ∙ planned) (here_is (has home) ends q here ∙ none) (d home),
    )

pub returns-in-Gone-clause-stays : goal.returns-in-Gone-clause-stays
returns-in-Gone-clause-stays g c =
    let asks = g.P.Work.asks in
    let may = MayLose (g.E.Engine.refused c.args.scan.now.engine.now) (g.E.Engine.unlisted c.args.scan.now.engine.now (g.E.Engine.refused c.args.scan.now.engine.now)) g.P.Work.refuses (g.P.Work.stands (g.E.Engine.root c.args.scan.now.engine.now)) in
    let boards = c.args.scan.now.boards.now in
    let has = g.B.Boards.has boards in
    let q = c.args.q in
    let old = g.B.Tasks.at c.args.seat in
    let mid = g.B.Tasks.at c.collect-answer.result.1 in
    let called = collected_as asks has g.P.Work.stands q old mid c.collect-answer.result.0 collect.Gone c.in-Gone.is c.collect-answer.ensures.called in
    none_stays asks has q old mid c.requires.czar c.collect-answer.ensures.others (λ p before after. AnswersCollect g.P.Work.stands (old p).number before q collect.Gone after) called (λ p t. ap (λ b. b.past) (called p t).answer.1) may

pub work-requires : goal.work-requires
work-requires g c =
    let asks = g.P.Work.asks in
    let may = MayLose (g.E.Engine.refused c.args.scan.now.engine.now) (g.E.Engine.unlisted c.args.scan.now.engine.now (g.E.Engine.refused c.args.scan.now.engine.now)) g.P.Work.refuses (g.P.Work.stands (g.E.Engine.root c.args.scan.now.engine.now)) in
    let boards = c.args.scan.now.boards.now in
    let has = g.B.Boards.has boards in
    let q = c.args.q in
    let old = g.B.Tasks.at c.args.seat in
    let mid = g.B.Tasks.at c.collect-answer.result.1 in
    let called = collected_as asks has g.P.Work.stands q old mid c.collect-answer.result.0 collect.NotYet c.in-NotYet.is c.collect-answer.ensures.called in
    let stays = none_stays asks has q old mid c.requires.czar c.collect-answer.ensures.others (λ p before after. AnswersCollect g.P.Work.stands (old p).number before q collect.NotYet after) called (λ p t. ap (λ b. b.past) (called p t).answer.1) may in
    czars_on asks (g.B.Tasks.turn boards) (g.E.Engine.root c.args.scan.now.engine.now) old mid c.requires stays

pub returns-in-Piece-clause-whole : goal.returns-in-Piece-clause-whole
returns-in-Piece-clause-whole g c =
    let asks = g.P.Work.asks in
    let may = MayLose (g.E.Engine.refused c.args.scan.now.engine.now) (g.E.Engine.unlisted c.args.scan.now.engine.now (g.E.Engine.refused c.args.scan.now.engine.now)) g.P.Work.refuses (g.P.Work.stands (g.E.Engine.root c.args.scan.now.engine.now)) in
    let boards = c.args.scan.now.boards.now in
    let has = g.B.Boards.has boards in
    let q = c.args.q in
    let old = g.B.Tasks.at c.args.seat in
    let mid = g.B.Tasks.at c.collect-answer.result.1 in
    let home = g.B.Boards.home boards q in
    let here = g.met.B.Boards.housed boards q in
    let called = collected_as asks has g.P.Work.stands q old mid c.collect-answer.result.0 (collect.Piece c.in-Piece.piece) c.in-Piece.is c.collect-answer.ensures.called in
    let stays = told_stays asks has q Done old mid c.requires.czar c.collect-answer.ensures.others (λ p before after. AnswersCollect g.P.Work.stands (old p).number before q (collect.Piece c.in-Piece.piece) after) called (λ p t. ap (λ b. b.past) (called p t).answer.0.line) may in
    let whole = piece_whole asks g.P.Work.stands q c.in-Piece.piece (old home) (mid home) (called home here) (stays home) in
    record { attached = whole.attached; whole = whole.whole }
