-- The entries that are read so far, and the lines that are left.
use Rattle.std.proofs.Common.{◌≡◌, List, [], ◌∷◌, ◌++◌, Option, None, Some, Result, Ok, Err, refl, sym, ◌∙◌, ap, subst, append_assoc, append-nil}
use Rattle.std.specs.List.{filter_map}
use Rattle.text_rules.specs.Lines.{Line}
use Rattle.text_rules.specs.Readings.{judged}
use Rattle.scan_rules.specs.declared.journal_line.JournalLine.{JournalLine}
use Rattle.scan_history.specs.declared.fault.HistoryFault.{HistoryFault}
use Rattle.scan_history.specs.declared.fault.HistoryFault.TheVariants.{Syntax}
use Rattle.scan_history.specs.Entries.{entry_of}
use Rattle.scan_history.specs.Texts.{fault_where, fault_on, entries_on}
use Rattle.scan_history.specs.Adding.{Adds}

-- the entries so far, and those of the lines that are left
abbrev pub with_front : List JournalLine → Result (List JournalLine) HistoryFault → Result (List JournalLine) HistoryFault
with_front front (Ok entries) = Ok (front ++ entries)
with_front front (Err fault) = Err fault

pub no_front : (rest : Result (List JournalLine) HistoryFault) → with_front [] rest ≡ rest
no_front (Ok entries) = refl
no_front (Err fault) = refl

judged_more : (faults : List HistoryFault) (entry : JournalLine) (entries front : List JournalLine)
    → with_front front (judged faults (entry ∷ entries)) ≡ with_front (front ++ entry ∷ []) (judged faults entries)
judged_more [] entry entries front = ap {B = Result (List JournalLine) HistoryFault} (λ l. Ok l) (sym (append_assoc front (entry ∷ []) entries))
judged_more (fault ∷ faults) entry entries front = refl

-- the entries of a line and those after it, by the line's entry
pub one_by : (line : Line) (lines : List Line) (front : List JournalLine) (entry : JournalLine) (o : Option JournalLine) → entry_of line.text ≡ o → o ≡ Some entry
    → with_front front (entries_on (line ∷ lines)) ≡ with_front (front ++ entry ∷ []) (entries_on lines)
one_by line lines front entry o e s = let is : entry_of line.text ≡ Some entry = e ∙ s in
    rw is (judged_more (filter_map fault_on lines) entry (filter_map (λ l. entry_of l.text) lines) front)

none_by : (line : Line) (lines : List Line) (fault : HistoryFault) (o : Option JournalLine) → entry_of line.text ≡ o → fault_where line.number o ≡ Some fault
    → entries_on (line ∷ lines) ≡ Err fault
none_by line lines fault None e f = rw e (ap {B = Result (List JournalLine) HistoryFault} (λ x. Err x) (inner (Syntax line.number) fault f)) where
  inner : (a b : HistoryFault) → ◌≡◌ {A = Option HistoryFault} (Some a) (Some b) → a ≡ b
  inner a b e = cc e
none_by line lines fault (Some entry) e f = absurd (cc f)

-- the entries so far and those of the lines left are those of all lines
pub record Read (whole left : List Line) (entries : List JournalLine) : Type 0 where
  pub so_far : with_front entries (entries_on left) ≡ entries_on whole

pub read_first : (whole : List Line) → Read whole whole []
read_first whole = record { so_far = no_front (entries_on whole) }

pub read_more : (whole left : List Line) (line : Line) (old new : List JournalLine) → Read whole (line ∷ left) old → Adds line old new → Read whole left new
read_more whole left line old new h a =
    subst (Read whole left) (sym a.appended) (record { so_far = sym (one_by line left old a.entry (entry_of line.text) refl a.read) ∙ h.so_far })

pub read_bad : (whole left : List Line) (line : Line) (old : List JournalLine) (fault : HistoryFault) → Read whole (line ∷ left) old → fault_on line ≡ Some fault → entries_on whole ≡ Err fault
read_bad whole left line old fault h f = sym h.so_far ∙ ap (with_front old) (none_by line left fault (entry_of line.text) refl f)

pub read_all : (whole : List Line) (entries : List JournalLine) → Read whole [] entries → entries_on whole ≡ Ok entries
read_all whole entries h = sym h.so_far ∙ ap {B = Result (List JournalLine) HistoryFault} (λ l. Ok l) (append-nil entries)
