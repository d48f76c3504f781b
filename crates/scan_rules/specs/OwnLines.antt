-- A lemma about the lines of one participant: they show which of the tasks that it took are delivered.
use Rattle.std.specs.Prelude.{◌≡◌, ℕ, ◌==◌, true, filter}
use Rattle.std.specs.List.{list_any}
use Rattle.scan_rules.specs.Lines.{seat_of, took}
use Rattle.scan_rules.specs.Queries.{Journal, is_delivered}
use Rattle.scan_rules.specs.Runs.{IsRun}

-- the lines of this participant
abbrev pub own_lines : ℕ → Journal → Journal
own_lines seat past = filter (λ line. seat_of line == seat) past

-- the own lines of a participant show whether a task that it took is delivered
abbrev pub OwnLinesTell : Type 0
OwnLinesTell =
    (ring : ℕ) (past : Journal) (seat ticket : ℕ)
    → IsRun ring past → list_any (took seat ticket) past ≡ true
    → is_delivered past ticket ≡ is_delivered (own_lines seat past) ticket
