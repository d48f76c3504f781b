-- The text that is written for a journal.
use Rattle.std.specs.Prelude.{ℕ, List, [], ◌∷◌, ◌++◌, map, flat_map, codes}
use Rattle.std.specs.Fmt.{decimal}
use Rattle.scan_rules.specs.declared.journal_line.JournalLine.{JournalLine}
use Rattle.scan_rules.specs.declared.journal_line.JournalLine.TheVariants.{Attach, Take, Deliver, Cancel, Collect, Close}
use Rattle.scan_rules.specs.Lines.{seat_of}
use Rattle.scan_rules.specs.declared.journal.Journal.{Journal}

-- numbers in plain decimal
abbrev pub decimals : List ℕ → List (List ℕ)
decimals numbers = map decimal numbers

-- the parts for the lost queries: none if no query is lost
abbrev pub lost_parts : List ℕ → List (List ℕ)
lost_parts [] = []
lost_parts (q ∷ queries) = codes "lost" ∷ decimals (q ∷ queries)

-- the parts of an entry after its participant
abbrev pub event_parts : JournalLine → List (List ℕ)
event_parts (Attach seat q chunks) = codes "attach" ∷ decimal q ∷ decimals chunks
event_parts (Take seat ticket chunk queries) = codes "take" ∷ decimal ticket ∷ decimal chunk ∷ decimals queries
event_parts (Deliver seat ticket lost) = codes "deliver" ∷ decimal ticket ∷ lost_parts lost
event_parts (Cancel seat q) = codes "cancel" ∷ decimal q ∷ []
event_parts (Collect seat q) = codes "collect" ∷ decimal q ∷ []
event_parts (Close seat) = codes "close" ∷ []

-- parts, each with a space before it
abbrev pub spaced : List (List ℕ) → List ℕ
spaced parts = flat_map (λ part. 32 ∷ part) parts

-- a line of a first part and those after it, which one space separates
abbrev pub line_of : List ℕ → List (List ℕ) → List ℕ
line_of first parts = first ++ (spaced parts ++ 10 ∷ [])

-- the line of an entry
abbrev pub entry_text : JournalLine → List ℕ
entry_text entry = line_of (decimal (seat_of entry)) (event_parts entry)

-- the text of a journal: a line for its ring, and a line for each entry
abbrev pub journal_text : Journal → List ℕ
journal_text journal = line_of (codes "ring") (decimal journal.ring ∷ []) ++ flat_map entry_text journal.lines
