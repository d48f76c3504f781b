-- What is left to write, part by part.
use Rattle.std.proofs.Common.{◌≡◌, ℕ, ◌+◌, ◌<◌, List, ◌∷◌, ◌++◌, length, drop, get_or, flat_map, sym, ◌∙◌, ap, drop-cons, add-one}
use Rattle.std.specs.Fmt.{decimal}
use Rattle.scan_rules.specs.declared.journal_line.JournalLine.{JournalLine}
use Rattle.scan_history.specs.Printed.{decimals, spaced, entry_text}

-- the numbers from a position on: the one there, and those after it
pub next_number : (numbers : List ℕ) (i : ℕ) → i < length numbers
    → spaced (decimals (drop i numbers)) ≡ (32 ∷ decimal (get_or numbers i 0)) ++ spaced (decimals (drop (i + 1) numbers))
next_number numbers i low = rw add-one (ap (λ (r : List ℕ). spaced (decimals r)) (drop-cons numbers i 0 low))

-- the entries from a position on
pub next_entry : (entries : List JournalLine) (i : ℕ) (entry : JournalLine) → entry ≡ get_or entries i entry → i < length entries
    → flat_map entry_text (drop i entries) ≡ entry_text entry ++ flat_map entry_text (drop (i + 1) entries)
next_entry entries i entry is low =
    rw add-one (ap (λ (r : List JournalLine). flat_map entry_text r) (drop-cons entries i entry low))
    ∙ ap (λ (e : JournalLine). entry_text e ++ flat_map entry_text (drop (i + 1) entries)) (sym is)
