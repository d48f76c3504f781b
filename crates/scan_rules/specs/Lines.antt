-- What a single line of the journal does, as tests on the line. Its lists are ascending, as its types guarantee.
use Rattle.std.specs.Prelude.{ℕ, ◌==◌, List, [], ◌∷◌, Bool, true, false, ◌&&◌, cond}
use Rattle.scan_rules.specs.declared.journal_line.JournalLine.{JournalLine}
use Rattle.scan_rules.specs.declared.journal_line.JournalLine.TheVariants.{Attach, Take, Deliver, Cancel, Collect, Close}
use Rattle.scan_rules.specs.Numbers.{has}

-- the participant that made the line
abbrev pub seat_of : JournalLine → ℕ
seat_of (Attach seat q chunks) = seat
seat_of (Take seat ticket chunk queries) = seat
seat_of (Deliver seat ticket lost) = seat
seat_of (Cancel seat q) = seat
seat_of (Collect seat q) = seat
seat_of (Close seat) = seat

-- it attaches a query
abbrev pub is_attach : JournalLine → Bool
is_attach (Attach seat q chunks) = true
is_attach _ = false

-- it attaches this query
abbrev pub attaches : ℕ → JournalLine → Bool
attaches query (Attach seat q chunks) = q == query
attaches query _ = false

-- the chunks with which it attaches this query
abbrev pub chunks_for : ℕ → JournalLine → List ℕ
chunks_for query (Attach seat q chunks) = cond (q == query) chunks []
chunks_for query _ = []

-- it attaches a query that wants this chunk
abbrev pub wants_chunk : ℕ → JournalLine → Bool
wants_chunk wanted (Attach seat q chunks) = has chunks wanted
wants_chunk wanted _ = false

-- it takes a chunk
abbrev pub takes : JournalLine → Bool
takes (Take seat ticket chunk queries) = true
takes _ = false

-- the chunk that it takes, in a list of at most one
abbrev pub chunk_of : JournalLine → List ℕ
chunk_of (Take seat ticket chunk queries) = chunk ∷ []
chunk_of _ = []

-- it takes a chunk for this query
abbrev pub names : ℕ → JournalLine → Bool
names query (Take seat ticket chunk queries) = has queries query
names query _ = false

-- it takes this chunk for this query
abbrev pub serves : ℕ → ℕ → JournalLine → Bool
serves query wanted (Take seat ticket chunk queries) = (chunk == wanted) && has queries query
serves query wanted _ = false

-- it takes with this ticket
abbrev pub has_ticket : ℕ → JournalLine → Bool
has_ticket number (Take seat ticket chunk queries) = ticket == number
has_ticket number _ = false

-- it takes with this ticket, by this participant
abbrev pub took : ℕ → ℕ → JournalLine → Bool
took from number (Take seat ticket chunk queries) = (seat == from) && (ticket == number)
took from number _ = false

-- it takes with this ticket, for this query
abbrev pub names_with : ℕ → ℕ → JournalLine → Bool
names_with number query (Take seat ticket chunk queries) = (ticket == number) && has queries query
names_with number query _ = false

-- it takes with this ticket, this chunk for this query
abbrev pub serves_with : ℕ → ℕ → ℕ → JournalLine → Bool
serves_with number query wanted line = has_ticket number line && serves query wanted line

-- it delivers a task
abbrev pub is_deliver : JournalLine → Bool
is_deliver (Deliver seat ticket lost) = true
is_deliver _ = false

-- it delivers the task of this ticket
abbrev pub delivers : ℕ → JournalLine → Bool
delivers number (Deliver seat ticket lost) = ticket == number
delivers number _ = false

-- it loses this query, because an allocation failed
abbrev pub loses : ℕ → JournalLine → Bool
loses query (Deliver seat ticket lost) = has lost query
loses query _ = false

-- it cancels a query
abbrev pub is_cancel : JournalLine → Bool
is_cancel (Cancel seat q) = true
is_cancel _ = false

-- it cancels this query
abbrev pub cancels : ℕ → JournalLine → Bool
cancels query (Cancel seat q) = q == query
cancels query _ = false

-- it collects a query
abbrev pub is_collect : JournalLine → Bool
is_collect (Collect seat q) = true
is_collect _ = false

-- it collects this query
abbrev pub collects : ℕ → JournalLine → Bool
collects query (Collect seat q) = q == query
collects query _ = false

-- it closes the board
abbrev pub closes : JournalLine → Bool
closes (Close seat) = true
closes _ = false
