-- What is visible to contracts of a participant, and how splitting and joining change it.
use Rattle.std.specs.Prelude.{ℕ, ◌+◌, List, [], ◌∷◌, ◌++◌}
use Rattle.atomic_table.specs.Seated.{TableId}
use Rattle.turn_lock.specs.Pasts.{Counts, fresh, longer}

-- A participant of a lock over a value with this root and entries of this kind.
pub record Seated (R E : Type 0) : Type 0 where
  -- the lock to which it belongs
  pub turn : TableId
  pub number : ℕ
  pub root : R
  -- the prefix of the history that it has seen
  pub seen : List E
  -- the entries that it made
  pub mine : List E
  -- the numbers of the participants that were joined into it, each with the entries that the participant made
  pub ended : List (ℕ × List E)
  -- at participant 0 the number of participants made, itself counted; at the others 0
  pub made : ℕ

-- in what a participant has seen, its own entries and those of each ended number are those that it stores
abbrev pub Knows : {R E : Type 0} → (E → ℕ) → Seated R E → Type 0
Knows seat_of seat = Counts seat_of seat.number seat.made seat.mine seat.ended seat.seen

-- participant 0 of a lock over a value with this root and an empty history
abbrev pub first_seat : {R E : Type 0} → TableId → R → Seated R E
first_seat turn_id base = record { turn = turn_id; number = 0; root = base; seen = []; mine = []; ended = []; made = 1 }

-- the participant once it has seen this history
abbrev pub having_seen : {R E : Type 0} → List E → Seated R E → Seated R E
having_seen past seat = record seat { seen = past }

-- the participant once the history is this, if what it had not seen is its own
abbrev pub grown : {R E : Type 0} → List E → Seated R E → Seated R E
grown past seat = record seat { seen = past; mine = seat.mine ++ fresh seat.seen past }

-- participant 0 once one more participant was made
abbrev pub one_more_made : {R E : Type 0} → Seated R E → Seated R E
one_more_made seat = record seat { made = seat.made + 1 }

-- the participant that participant 0 makes next: it has seen what participant 0 has seen, and has made nothing
abbrev pub next_seat : {R E : Type 0} → Seated R E → Seated R E
next_seat seat = record seat { number = seat.made; mine = []; ended = []; made = 0 }

-- the participant once another has ended in it
abbrev pub joined_with : {R E : Type 0} → Seated R E → Seated R E → Seated R E
joined_with seat other = record seat { seen = longer seat.seen other.seen; ended = seat.ended ++ (other.number, other.mine) ∷ other.ended }
