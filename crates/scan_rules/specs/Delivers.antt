-- What a Deliver owes the queries of its task: each running query has a partial result of its own, or is lost.
use Rattle.std.specs.Prelude.{◌≡◌, ℕ, ◌<◌, List, length, get_or, true, Option, None}
use Rattle.scan_rules.specs.Numbers.{has}
use Rattle.scan_rules.specs.Queries.{Journal, is_running}

-- the query at a position, counted from 0
abbrev pub query_of : List ℕ → ℕ → ℕ
query_of queries turn = get_or queries turn 0

-- the entry at a position: none beyond the last one
abbrev pub entry_of : {P : Type 0} → List (Option P) → ℕ → Option P
entry_of entries turn = get_or entries turn None

-- only queries with a partial result are not lost: each running query of the task without one is lost
pub record LosesWithoutPiece {P : Type 0} (past : Journal) (queries : List ℕ) (entries : List (Option P)) (lost : List ℕ)
    : Type 0 where
  pub missing : (turn : ℕ) → turn < length queries → entry_of entries turn ≡ None
      → is_running past (query_of queries turn) ≡ true → has lost (query_of queries turn) ≡ true
