-- A worked text and its entries.
use Rattle.std.specs.Prelude.{ℕ, List, [], ◌∷◌, ◌++◌, codes}
use Rattle.scan_rules.specs.declared.journal_line.JournalLine.{JournalLine}
use Rattle.scan_rules.specs.declared.journal_line.JournalLine.TheVariants.{Attach, Take, Deliver, Collect, Close}

-- the ring and the first entry, in which query 1 is attached
abbrev pub two_lines : List ℕ
two_lines = codes "ring 8\n0 attach 1 0 4\n"

-- query 2 is attached after query 1 was served chunk 0, and both are served chunk 4
abbrev pub four_lines : List ℕ
four_lines = codes "0 attach 2 0 4\n0 take 1 4 1 2\n0 deliver 1\n0 deliver 0\n"

-- query 2 is served chunk 0 on the next lap
abbrev pub last_lines : List ℕ
last_lines = codes "0 take 2 0 2\n0 deliver 2\n0 collect 1\n0 collect 2\n0 close\n"

-- the text of a journal of two queries
abbrev pub twelve_lines : List ℕ
twelve_lines = two_lines ++ (codes "0 take 0 0 1\n" ++ (four_lines ++ last_lines))

-- its entries up to the end of the first lap
abbrev pub six_entries : List JournalLine
six_entries =
    Attach 0 1 (0 ∷ 4 ∷ []) ∷ Take 0 0 0 (1 ∷ []) ∷ Attach 0 2 (0 ∷ 4 ∷ []) ∷ Take 0 1 4 (1 ∷ 2 ∷ []) ∷ Deliver 0 1 []
    ∷ Deliver 0 0 [] ∷ []

-- all its entries
abbrev pub eleven_entries : List JournalLine
eleven_entries = six_entries ++ (Take 0 2 0 (2 ∷ []) ∷ Deliver 0 2 [] ∷ Collect 0 1 ∷ Collect 0 2 ∷ Close 0 ∷ [])
