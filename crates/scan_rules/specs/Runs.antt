-- Which line may follow a journal, and which journals are runs of a board.
use Rattle.std.specs.Prelude.{◌≡◌, ℕ, ◌+◌, ◌<◌, ◌≤◌, nat_lt, List, ◌∷◌, ◌++◌, true, false, ◌&&◌, Some, All, count_by}
use Rattle.std.specs.List.{list_any, list_all}
use Rattle.scan_rules.specs.declared.journal_line.JournalLine.{JournalLine}
use Rattle.scan_rules.specs.declared.journal_line.JournalLine.TheVariants.{Attach, Take, Deliver, Cancel, Collect, Close}
use Rattle.scan_rules.specs.declared.limits.TheConstants.{QUERY_MOST, RUNNING_MOST}
use Rattle.scan_rules.specs.Lines.{takes, took, names_with}
use Rattle.scan_rules.specs.Queries.{Journal, is_closed, is_attached, is_collected, is_delivered, is_running, is_ended}
use Rattle.scan_rules.specs.Scan.{running_count, takers, next_chunk}

-- the query may be attached with these chunks
pub record MayAttach (ring : ℕ) (past : Journal) (q : ℕ) (chunks : List ℕ) : Type 0 where
  pub not_closed : is_closed past ≡ false
  pub from_1 : 1 ≤ q
  pub to_255 : q < QUERY_MOST + 1
  pub fresh : is_attached past q ≡ false
  pub room : running_count past < RUNNING_MOST
  pub in_ring : list_all (λ chunk. nat_lt chunk ring) chunks ≡ true

-- the chunk may be taken with this ticket for these queries; tickets count from 0
pub record MayTake (ring : ℕ) (past : Journal) (ticket chunk : ℕ) (queries : List ℕ) : Type 0 where
  pub counted : ticket ≡ count_by takes past
  pub next : next_chunk ring past ≡ Some chunk
  pub all : queries ≡ takers past chunk

-- the participant may deliver the task of this ticket, and lose these queries
pub record MayDeliver (past : Journal) (seat ticket : ℕ) (lost : List ℕ) : Type 0 where
  pub same_seat : list_any (took seat ticket) past ≡ true
  pub in_flight : is_delivered past ticket ≡ false
  pub losable : list_all (λ q. is_running past q && list_any (names_with ticket q) past) lost ≡ true

-- the query may be collected
pub record MayCollect (past : Journal) (q : ℕ) : Type 0 where
  pub ended : is_ended past q ≡ true
  pub not_yet : is_collected past q ≡ false

-- the line may follow these lines
abbrev pub MayFollow : ℕ → Journal → JournalLine → Type 0
MayFollow ring past (Attach seat q chunks) = MayAttach ring past q chunks
MayFollow ring past (Take seat ticket chunk queries) = MayTake ring past ticket chunk queries
MayFollow ring past (Deliver seat ticket lost) = MayDeliver past seat ticket lost
MayFollow ring past (Cancel seat q) = is_running past q ≡ true
MayFollow ring past (Collect seat q) = MayCollect past q
MayFollow ring past (Close seat) = is_closed past ≡ false

-- a run over a ring: each line may follow those before it
pub record IsRun (ring : ℕ) (past : Journal) : Type 0 where
  pub follows : (before : Journal) (line : JournalLine) (rest : Journal) → past ≡ before ++ line ∷ rest → MayFollow ring before line

-- the root asks of the query each chunk that the line attaches it with
abbrev pub IsAsked : (ℕ → ℕ → Type 0) → JournalLine → Type 0
IsAsked asks (Attach seat q chunks) = All (asks q) chunks
IsAsked asks _ = Unit {0}

-- a run over a ring and a root: its lists have only chunks that the root asks of their query
pub record IsRunOver (ring : ℕ) (asks : ℕ → ℕ → Type 0) (past : Journal) : Type 0 where
  pub run : IsRun ring past
  pub asked : All (IsAsked asks) past
