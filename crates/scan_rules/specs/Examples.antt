-- Worked histories on a ring of 8 chunks. Participant 0 attaches, cancels, collects and closes; 1 and 2 take and
-- deliver.
use Rattle.std.specs.Prelude.{◌+◌, [], ◌∷◌, map}
use Rattle.scan_rules.specs.declared.journal_line.JournalLine.TheVariants.{Attach, Take, Deliver, Cancel, Collect, Close}
use Rattle.scan_rules.specs.Numbers.{below}
use Rattle.scan_rules.specs.Queries.{Journal}

-- two queries want chunks 0 and 4, and the second is attached after the first was served chunk 0
abbrev pub late_query : Journal
late_query =
    Attach 0 1 (0 ∷ 4 ∷ []) ∷ Take 1 0 0 (1 ∷ []) ∷ Attach 0 2 (0 ∷ 4 ∷ []) ∷ Take 2 1 4 (1 ∷ 2 ∷ [])
    ∷ Deliver 2 1 [] ∷ Deliver 1 0 [] ∷ Take 1 2 0 (2 ∷ []) ∷ Deliver 1 2 []
    ∷ Collect 0 1 ∷ Collect 0 2 ∷ Close 0 ∷ []

-- query 1 wants the last chunk and is lost, query 2 wants none, and query 3 is cancelled
abbrev pub three_ends : Journal
three_ends =
    Attach 0 1 (7 ∷ []) ∷ Take 1 0 7 (1 ∷ []) ∷ Attach 0 2 [] ∷ Attach 0 3 (5 ∷ []) ∷ Cancel 0 3 ∷ Deliver 1 0 (1 ∷ []) ∷ []

-- 64 queries want chunk 0
abbrev pub full_board : Journal
full_board = map (λ number. Attach 0 (number + 1) (0 ∷ [])) (below 64)
