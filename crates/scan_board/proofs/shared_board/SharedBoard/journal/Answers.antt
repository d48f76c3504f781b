use Rattle.std.proofs.Common.{rules, refl}
use Rattle.scan_board.specs.Calls.{AnswersJournal}
use Rattle.scan_board.proofs.Entries.{called, journal_moves, lawful_short, may_leave}
use Rattle.scan_board.proofs.shared_board.SharedBoard.journal.Goals as goal

pub leave-requires-clause-past : goal.leave-requires-clause-past
leave-requires-clause-past g c =
    may_leave c.args.seat.number c.args.seat c.enter-pass.result.seat c.enter-pass.result.value _ _
    c.enter-pass.ensures.seat c.value.ensures.value refl
    (journal_moves c.args.seat.number _ _ c.journal-journal.result (record { journal = c.journal-journal.ensures.journal; same = refl }))

pub leave-requires-clause-short : goal.leave-requires-clause-short
leave-requires-clause-short g c = lawful_short g.P.Work.asks _ c.journal-journal.ensures.lawful

pub returns : goal.returns
returns g c = record {
  called = called g.P.Work.asks (AnswersJournal c.journal-journal.result) c.args.seat.number
      c.args.seat c.enter-pass.result.seat c.leave.result c.enter-pass.result.value _ _
      c.enter-pass.ensures.seat c.enter-pass.ensures.root c.enter-pass.ensures.later c.enter-pass.ensures.known
      c.value.ensures.value refl
      (journal_moves c.args.seat.number _ _ c.journal-journal.result (record { journal = c.journal-journal.ensures.journal; same = refl }))
      (record { journal = c.journal-journal.ensures.journal; same = refl })
      c.journal-journal.ensures.lawful (search rules) c.leave.ensures.known;
}
