-- Lists of entries, each of which carries the number of the participant that made it.
use Rattle.std.specs.Prelude.{◌≡◌, ◌≢◌, ℕ, ◌<◌, ◌≤◌, ◌==◌, List, [], ◌++◌, length, filter, drop, Contains, All}
use Rattle.std.specs.Prelude.{nat_lt, if◌then◌else◌}

-- the entries that carry this number
abbrev pub of_seat : {E : Type 0} → (E → ℕ) → ℕ → List E → List E
of_seat seat_of number entries = filter (λ e. seat_of e == number) entries

-- the entries of a history after those that were seen of it
abbrev pub fresh : {E : Type 0} → List E → List E → List E
fresh seen past = drop (length seen) past

-- the longer of two lists, and the first if their lengths are equal
abbrev pub longer : {E : Type 0} → List E → List E → List E
longer xs ys = if nat_lt (length xs) (length ys) then ys else xs

-- the history is what was seen, followed by at most one entry, which carries this number
pub record GrewByAtMostOne {E : Type 0} (seat_of : E → ℕ) (number : ℕ) (seen past : List E) : Type 0 where
  pub more : List E
  pub grown : past ≡ seen ++ more
  pub few : length more ≤ 1
  pub own : All (λ e. seat_of e ≡ number) more

-- What a participant of this number knows of a list of entries: which of them it made, and which of them the
-- participants made that ended in it.
pub record Counts {E : Type 0} (seat_of : E → ℕ) (number count : ℕ) (own : List E) (kept : List (ℕ × List E)) (seen : List E) : Type 0 where
  -- the entries with its own number are its own
  pub mine : of_seat seat_of number seen ≡ own
  -- the entries with each ended number are those stored with it
  pub ended : (n : ℕ) (es : List E) → Contains kept (n, es) → (n ≢ number) × (of_seat seat_of n seen ≡ es)
  -- participant 0 is counted among the participants made, and no entry carries that count or more
  pub first : number ≡ 0 → 0 < count
  pub above : number ≡ 0 → (n : ℕ) → count ≤ n → of_seat seat_of n seen ≡ []
