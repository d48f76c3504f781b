-- A lemma on participant 0 of a board once all others have ended in it.
use Rattle.std.specs.Prelude.{◌≡◌, ℕ, IfOk, Result}
use Rattle.sky_io.specs.declared.Memory.{Memory}
use Rattle.scan_rules.specs.Lines.{seat_of}
use Rattle.scan_rules.specs.declared.journal.Journal.{Journal}
use Rattle.turn_lock.specs.Ends.{AllHaveEnded}
use Rattle.turn_lock.specs.Seats.{Knows}
use Rattle.scan_board.specs.Calls.{AnswersJournal, BoardSeat, Called}

-- the journal that participant 0 reads is what it had seen
abbrev pub ReadsWhatWasSeen : {R : Type 0} → (R → ℕ → ℕ → Type 0) → Type 0
ReadsWhatWasSeen {R} asks =
    (answer : Result Journal Memory) (old new : BoardSeat R) → Called asks (AnswersJournal answer) old new
    → old.number ≡ 0 → Knows seat_of old → AllHaveEnded old
    → IfOk answer (λ journal. journal ≡ record { ring = old.root.ring; lines = old.seen })
