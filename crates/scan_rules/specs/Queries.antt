-- The content of a journal for one query: its list, what was served and given, and its state. Each definition is a test
-- of single lines over the whole list; none is a machine that reads the list.
use Rattle.std.specs.Prelude.{ℕ, ◌==◌, List, Bool, false, not, ◌&&◌, if◌then◌else◌}
use Rattle.std.specs.Prelude.{filter, count_by, flat_map}
use Rattle.std.specs.List.{list_any, list_all}
use Rattle.scan_rules.specs.declared.journal_line.JournalLine.{JournalLine}
use Rattle.scan_rules.specs.declared.journal_line.JournalLine.TheVariants.{Take}
use Rattle.scan_rules.specs.Numbers.{has}
use Rattle.scan_rules.specs.Lines.{attaches, chunks_for, serves, delivers, loses, cancels, collects, closes}

-- the lines so far, oldest first
abbrev pub Journal : Type 0
Journal = List JournalLine

-- no query can be attached any more
abbrev pub is_closed : Journal → Bool
is_closed past = list_any closes past

-- the query was attached
abbrev pub is_attached : Journal → ℕ → Bool
is_attached past q = list_any (attaches q) past

-- the query was cancelled
abbrev pub is_cancelled : Journal → ℕ → Bool
is_cancelled past q = list_any (cancels q) past

-- a Deliver has lost the query, because an allocation failed
abbrev pub is_lost : Journal → ℕ → Bool
is_lost past q = list_any (loses q) past

-- the query was collected
abbrev pub is_collected : Journal → ℕ → Bool
is_collected past q = list_any (collects q) past

-- the task of this ticket was delivered
abbrev pub is_delivered : Journal → ℕ → Bool
is_delivered past ticket = list_any (delivers ticket) past

-- the chunks that the query was attached with
abbrev pub wanted : Journal → ℕ → List ℕ
wanted past q = flat_map (chunks_for q) past

-- how often the chunk was taken for the query
abbrev pub times_served : Journal → ℕ → ℕ → ℕ
times_served past q chunk = count_by (serves q chunk) past

-- the chunk was taken for the query
abbrev pub is_served : Journal → ℕ → ℕ → Bool
is_served past q chunk = list_any (serves q chunk) past

-- the line takes the chunk for the query, with a ticket that the journal delivers
abbrev pub gives : Journal → ℕ → ℕ → JournalLine → Bool
gives past query number (Take seat ticket chunk queries) = ((chunk == number) && has queries query) && is_delivered past ticket
gives past query number _ = false

-- the chunk was taken for the query and delivered
abbrev pub is_given : Journal → ℕ → ℕ → Bool
is_given past q chunk = list_any (gives past q chunk) past

-- the chunks of the query that were taken for it and delivered, in the order of its list
abbrev pub given : Journal → ℕ → List ℕ
given past q = filter (is_given past q) (wanted past q)

-- every chunk of the query was given
abbrev pub is_complete : Journal → ℕ → Bool
is_complete past q = list_all (is_given past q) (wanted past q)

-- the query is attached, and neither cancelled nor lost
abbrev pub is_standing : Journal → ℕ → Bool
is_standing past q = is_attached past q && (not (is_cancelled past q) && not (is_lost past q))

-- the query is attached, neither cancelled nor lost, and not all of its chunks are given
abbrev pub is_running : Journal → ℕ → Bool
is_running past q = is_standing past q && not (is_complete past q)

-- the query is attached, neither cancelled nor lost, and all of its chunks are given: at once if its list is empty
abbrev pub is_done : Journal → ℕ → Bool
is_done past q = is_standing past q && is_complete past q

-- the query is done, cancelled or lost
abbrev pub is_ended : Journal → ℕ → Bool
is_ended past q = is_attached past q && not (is_running past q)

-- The states of a query.
pub data QueryState : Type 0 where
  Fresh : QueryState
  Running : QueryState
  Done : QueryState
  Cancelled : QueryState
  Spent : QueryState

-- the state of the query, by the first case that applies
abbrev pub state_of : Journal → ℕ → QueryState
state_of past q =
    if not (is_attached past q) then Fresh
    else (if is_cancelled past q then Cancelled
    else (if is_lost past q then Spent
    else (if is_complete past q then Done
    else Running)))
