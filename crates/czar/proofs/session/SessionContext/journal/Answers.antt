use Rattle.std.proofs.Common.{◌≡◌, ℕ, IfOk, subst}
use Rattle.answer_rules.specs.Bases.{Asks}
use Rattle.scan_rules.specs.declared.journal.Journal.{Journal}
use Rattle.scan_board.proofs.Ends.{reads_what_was_seen}
use Rattle.czar.proofs.session.SessionContext.journal.Goals as goal

pub returns : goal.returns
returns g c =
    let j = c.requires.joined in
    subst (λ (n : ℕ). IfOk c.journal-journal.result.0 (λ (it : Journal). it ≡ record { ring = n; lines = c.args.seat.seen })) j.ring
    (reads_what_was_seen Asks c.journal-journal.result.0 c.args.seat c.journal-journal.result.1 c.journal-journal.ensures.called j.first j.known j.ended)
