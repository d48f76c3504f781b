-- The entry of a line of a journal's text, and the ring of its first line.
use Rattle.std.specs.Prelude.{ℕ, List, [], ◌∷◌, codes, Option, None, Some, option_map, if◌then◌else◌, nat_le}
use Rattle.std.specs.Option.{option_and_then}
use Rattle.std.specs.Str.{bytes_eq}
use Rattle.text_rules.specs.Lines.{pieces}
use Rattle.scan_rules.specs.declared.journal_line.JournalLine.{JournalLine}
use Rattle.scan_rules.specs.declared.journal_line.JournalLine.TheVariants.{Attach, Take, Deliver, Cancel, Collect, Close}
use Rattle.scan_rules.specs.declared.limits.TheConstants.{RING_MOST}
use Rattle.scan_history.specs.Parts.{only_if, number_of, query_of, chunks_in, queries_in}

-- `Q C C ..`: the query, and any number of chunks
abbrev pub attach_in : ℕ → List (List ℕ) → Option JournalLine
attach_in seat (q ∷ rest) =
    option_and_then (λ query. option_map (λ chunks. Attach seat query chunks) (chunks_in rest)) (query_of q)
attach_in seat _ = None

-- `T C Q Q ..`: the ticket, the chunk and the queries
abbrev pub take_in : ℕ → List (List ℕ) → Option JournalLine
take_in seat (t ∷ c ∷ rest) =
    option_and_then (λ ticket. option_and_then (λ chunk.
    option_map (λ queries. Take seat ticket chunk queries) (queries_in rest)) (number_of c)) (number_of t)
take_in seat _ = None

-- nothing, or `lost Q Q ..`: the lost queries
abbrev pub lost_in : List (List ℕ) → Option (List ℕ)
lost_in [] = Some []
lost_in (word ∷ rest) = if bytes_eq word (codes "lost") then queries_in rest else None

-- `T`, and the lost queries
abbrev pub deliver_in : ℕ → List (List ℕ) → Option JournalLine
deliver_in seat (t ∷ rest) =
    option_and_then (λ ticket. option_map (λ lost. Deliver seat ticket lost) (lost_in rest)) (number_of t)
deliver_in seat _ = None

-- `Q`
abbrev pub cancel_in : ℕ → List (List ℕ) → Option JournalLine
cancel_in seat (q ∷ []) = option_map (λ query. Cancel seat query) (query_of q)
cancel_in seat _ = None

-- `Q`
abbrev pub collect_in : ℕ → List (List ℕ) → Option JournalLine
collect_in seat (q ∷ []) = option_map (λ query. Collect seat query) (query_of q)
collect_in seat _ = None

-- nothing
abbrev pub close_in : ℕ → List (List ℕ) → Option JournalLine
close_in seat [] = Some (Close seat)
close_in seat _ = None

-- an entry other than an Attach, by its word and the parts after it
abbrev pub other_in : ℕ → List ℕ → List (List ℕ) → Option JournalLine
other_in seat word rest =
    if bytes_eq word (codes "take") then take_in seat rest
    else (if bytes_eq word (codes "deliver") then deliver_in seat rest
    else (if bytes_eq word (codes "cancel") then cancel_in seat rest
    else (if bytes_eq word (codes "collect") then collect_in seat rest
    else (if bytes_eq word (codes "close") then close_in seat rest
    else None))))

-- an entry, by its word and the parts after it
abbrev pub event_in : ℕ → List ℕ → List (List ℕ) → Option JournalLine
event_in seat word rest = if bytes_eq word (codes "attach") then attach_in seat rest else other_in seat word rest

-- an entry, by its parts: the participant, the word and what follows
abbrev pub entry_in : List (List ℕ) → Option JournalLine
entry_in (seat ∷ word ∷ rest) = option_and_then (λ number. event_in number word rest) (number_of seat)
entry_in _ = None

-- the entry of a line, whose parts one space separates
abbrev pub entry_of : List ℕ → Option JournalLine
entry_of text = entry_in (pieces 32 text)

-- `ring N`: the number of chunks, at most 16,384
abbrev pub ring_after : List ℕ → List (List ℕ) → Option ℕ
ring_after word (n ∷ []) =
    if bytes_eq word (codes "ring") then only_if (λ ring. nat_le ring RING_MOST) (number_of n) else None
ring_after word _ = None

-- the ring of a line, by its parts
abbrev pub ring_in : List (List ℕ) → Option ℕ
ring_in [] = None
ring_in (word ∷ rest) = ring_after word rest

-- the ring of a line
abbrev pub ring_of : List ℕ → Option ℕ
ring_of text = ring_in (pieces 32 text)
