-- How a journal is checked, entry by entry.
use Rattle.std.proofs.Common.{◌≡◌, ℕ, ◌+◌, ◌^◌, ◌<◌, ◌≤◌, List, [], ◌∷◌, ◌++◌, length, Bool, true, false, refl, sym, ◌∙◌, ap, subst, arith, append_assoc, append-nil, length-append}
use Rattle.scan_rules.specs.declared.journal_line.JournalLine.{JournalLine}
use Rattle.scan_rules.specs.declared.journal.Journal.{Journal}
use Rattle.scan_rules.specs.Runs.{IsRun, MayFollow}
use Rattle.scan_rules.proofs.Lengths.{run_is_short}
use Rattle.scan_rules.proofs.Runs.{run_more, no_lines_run, follows_here}
use Rattle.scan_rules.proofs.Serving.{served_once, never_served, done_is_served}
use Rattle.scan_core.specs.Replays.{ReplayState, IsNext, Decides}
use Rattle.scan_history.specs.declared.fault.HistoryFault.{HistoryFault}
use Rattle.scan_history.specs.declared.fault.HistoryFault.TheVariants.{Syntax, NotAStep}
use Rattle.scan_history.specs.Checked.{IsRight, NamesFirstWrong, ServesRightly}
use Rattle.scan_history.specs.Replayed.{IsRightSoFar, Follows, StopsOn, StopsAt}

-- the replay of these lines is at this position, and the entries before it are right
pub record Checked (ring : ℕ) (lines : List JournalLine) (state : ReplayState) (position : ℕ) : Type 0 where
  pub same : state.ring ≡ ring
  pub cut : lines ≡ state.past ++ state.rest
  pub so_far : IsRightSoFar state position

pub checked_none : (ring : ℕ) (lines : List JournalLine) (state : ReplayState) → ring ≤ 16384 → state ≡ record { ring = ring; past = []; rest = lines } → Checked ring lines state 0
checked_none ring lines state small is = rw is (record {
  same = refl;
  cut = refl;
  so_far = record { small = small; count = refl; run = no_lines_run ring };
})

-- if entries are left, there is a next one
pub next_is : (state : ReplayState) → 0 < length state.rest → (line : JournalLine) × IsNext line state
next_is state some = go state.rest refl some where
  go : (rest : List JournalLine) → state.rest ≡ rest → 0 < length rest → (line : JournalLine) × IsNext line state
  go [] e some = absurd (omega arith)
  go (line ∷ later) e some = (line, record { later = later; is = e })

-- after one entry more
pub checked_more : (ring : ℕ) (lines : List JournalLine) (old new : ReplayState) (position : ℕ) → Checked ring lines old position → Follows old new → Checked ring lines new (position + 1)
checked_more ring lines old new position h g =
    let count : position ≡ length old.past = h.so_far.count in
    let l : length (old.past ++ g.line ∷ []) ≡ length old.past + 1 = length-append old.past (g.line ∷ []) in
    record {
      same = g.goes_on.ring ∙ h.same;
      cut = h.cut ∙ (ap (λ (r : List JournalLine). old.past ++ r) g.goes_on.rest ∙ (sym (append_assoc old.past (g.line ∷ []) new.rest) ∙ ap (λ (p : List JournalLine). p ++ new.rest) (sym g.goes_on.past)));
      so_far = record {
        small = (let s : old.ring ≤ 16384 = h.so_far.small in let e : new.ring ≡ old.ring = g.goes_on.ring in omega (arith, s, e));
        count = (let e : length new.past ≡ length (old.past ++ g.line ∷ []) = ap length g.goes_on.past in omega (arith, count, l, e));
        run = subst (λ r. IsRun r new.past) (sym g.goes_on.ring) (subst (IsRun old.ring) (sym g.goes_on.past) (run_more old.past g.line h.so_far.run g.may));
      };
    }

-- before the end entries are left
pub some_left : (ring : ℕ) (lines : List JournalLine) (state : ReplayState) (position : ℕ) → Checked ring lines state position → position < length lines → 0 < length state.rest
some_left ring lines state position h low =
    let e : length lines ≡ length (state.past ++ state.rest) = ap length h.cut in
    let count : position ≡ length state.past = h.so_far.count in
    omega (arith, low, e, count, length-append state.past state.rest)

-- at the end all entries are right
pub checked_all : (ring : ℕ) (lines : List JournalLine) (state : ReplayState) (position : ℕ) → Checked ring lines state position → length lines ≤ position → IsRun ring lines
checked_all ring lines state position h high =
    let e : length lines ≡ length (state.past ++ state.rest) = ap length h.cut in
    let count : position ≡ length state.past = h.so_far.count in
    let none : length state.rest ≡ 0 = omega (arith, high, e, count, length-append state.past state.rest) in
    subst (λ r. IsRun r lines) h.same (subst (IsRun state.ring) (sym (h.cut ∙ (ap (λ (r : List JournalLine). state.past ++ r) (empty state.rest none) ∙ append-nil state.past))) h.so_far.run) where
      empty : (xs : List JournalLine) → length xs ≡ 0 → xs ≡ []
      empty [] e = refl
      empty (x ∷ xs) e = absurd (omega (arith, e))

-- the position of the next entry is a small number
pub position_small : (state : ReplayState) (position : ℕ) → IsRightSoFar state position → position < 2 ^ 23
position_small state position h =
    let short : length state.past < 2 ^ 23 = run_is_short state.past h.small h.run in
    let count : position ≡ length state.past = h.count in
    omega (arith, short, count)

-- a run has few lines
pub run_small : (journal : Journal) → journal.ring ≤ 16384 → IsRight journal → length journal.lines < 2 ^ 23
run_small journal small run = run_is_short journal.lines small run

-- the entry that stops the check is the first that may not follow
pub first_wrong : (journal : Journal) (state : ReplayState) (position : ℕ) (fault : HistoryFault) → Checked journal.ring journal.lines state position → StopsAt state fault → NamesFirstWrong journal fault
first_wrong journal state position (Syntax number) h s = absurd s
first_wrong journal state position (NotAStep number) h s = record {
  before = state.past;
  entry = s.line;
  rest = s.next.later;
  cut = h.cut ∙ ap (λ (r : List JournalLine). state.past ++ r) s.next.is;
  right = subst (λ r. IsRun r state.past) h.same h.so_far.run;
  wrong = λ m. s.wrong (subst (λ r. MayFollow r state.past s.line) (sym h.same) m);
  line_is = s.line_is;
}

-- a journal with such an entry is not right
pub wrong_is_not_right : (journal : Journal) (fault : HistoryFault) → NamesFirstWrong journal fault → IsRight journal → ⊥
wrong_is_not_right journal (Syntax number) w r = w
wrong_is_not_right journal (NotAStep number) w r = w.wrong (follows_here w.before w.entry w.rest (subst (IsRun journal.ring) w.cut r))

-- an entry that was replayed
pub goes : (old new : ReplayState) (may : Bool) → 0 < length old.rest → ((line : JournalLine) → IsNext line old → Decides line old may new) → may ≡ true → Follows old new
goes old new may some decided follows =
    let n = next_is old some in
    let j = decided n.0 n.1 in
    record { line = n.0; may = j.right follows; goes_on = j.goes_on follows }

-- an entry that may not follow
pub stops : (old new : ReplayState) (may : Bool) (position : ℕ) → 0 < length old.rest → IsRightSoFar old position → ((line : JournalLine) → IsNext line old → Decides line old may new) → may ≡ false → StopsOn old (position + 2)
stops old new may position some h decided refused =
    let n = next_is old some in
    let j = decided n.0 n.1 in
    let count : position ≡ length old.past = h.count in
    record { line = n.0; next = n.1; wrong = j.wrong refused; line_is = omega (arith, count) }

-- what a run serves
pub serves_rightly : (journal : Journal) → IsRight journal → ServesRightly journal.lines
serves_rightly journal run = record {
  once = λ q chunk. served_once journal.lines q chunk run;
  own = λ q chunk apart. never_served journal.lines q chunk run apart;
  whole = λ q chunk done wanted. done_is_served journal.lines q chunk run done wanted;
}
