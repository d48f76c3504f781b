-- The view that the table stores for each participant, and how each kind of step changes it.
use Rattle.std.specs.Prelude.{◌≡◌, ℕ, ◌+◌, List, [], ◌∷◌, ◌++◌, false, true, Option, Some, None, IsSome}
use mathlib.Core.Bool.{false≢true}
use Rattle.atomic_table.specs.Seated.{TableId}
use Rattle.atomic_table.specs.Table.{Me}
use Rattle.turn_lock.specs.Pasts.{Counts, fresh, longer}
use Rattle.turn_lock.specs.Seats.{Seated}
use Rattle.turn_lock.specs.declared.view.View.{View}

-- the content of an option that is not empty
abbrev pub the_some : {A : Type 0} → (o : Option A) → IsSome o → A
the_some None h = absurd (false≢true h)
the_some (Some x) h = x

-- what is visible to contracts of a participant with this view
abbrev pub seated : {R E : Type 0} → TableId → (v : View R E) → IsSome v.root → Seated R E
seated turn_id v h = record {
  turn = turn_id;
  number = v.number;
  root = the_some v.root h;
  seen = v.seen;
  mine = v.mine;
  ended = v.ended;
  made = v.made;
}

-- in what the view has seen, its own entries and those of each ended number are those that it stores
abbrev pub ViewKnows : {R E : Type 0} → (E → ℕ) → View R E → Type 0
ViewKnows seat_of v = Counts seat_of v.number v.made v.mine v.ended v.seen

-- A participant of this number that does not hold the lock: it has no slot, and a live view.
pub record IsResting {S R E : Type 0} (seat_of : E → ℕ) (number made : ℕ) (me : Me S (View R E)) : Type 0 where
  pub slots : me.1 ≡ []
  pub live : me.0.live ≡ true
  pub idle : me.0.holds_turn ≡ false
  pub numbered : me.0.number ≡ number
  pub counted : me.0.made ≡ made
  pub knows : ViewKnows seat_of me.0

-- A participant of this number that holds the lock: it has the slot, out of which the value was taken, and a live view.
pub record HasTurn {T R E : Type 0} (seat_of : E → ℕ) (number made : ℕ) (me : Me (Option T) (View R E)) : Type 0 where
  pub slots : me.1 ≡ (0, None) ∷ []
  pub live : me.0.live ≡ true
  pub holds : me.0.holds_turn ≡ true
  pub numbered : me.0.number ≡ number
  pub counted : me.0.made ≡ made
  pub knows : ViewKnows seat_of me.0

-- the view of a new participant, with this number, which has made no entry
abbrev pub new_view : {R E : Type 0} → ℕ → Option R → List E → ℕ → View R E
new_view n base past count = record {
  number = n;
  root = base;
  seen = past;
  mine = [];
  ended = [];
  before = [];
  heard = [];
  made = count;
  holds_turn = false;
  live = true;
}

-- the view of participant 0 when the table is made
abbrev pub opening_view : {R E : Type 0} → R → View R E
opening_view base = new_view 0 (Some base) [] 1

-- the view once the participant has taken the lock, with all entries so far
abbrev pub holding : {R E : Type 0} → View R E → List E → View R E
holding v now = record v { seen = now; holds_turn = true; before = []; heard = [] }

-- the view once the participant has added these entries
abbrev pub adding : {R E : Type 0} → View R E → List E → View R E
adding v es = record v { seen = v.seen ++ es; mine = v.mine ++ es; before = []; heard = [] }

-- the view once the participant has made the history this one, which begins with what it had seen
abbrev pub adding_fresh : {R E : Type 0} → View R E → List E → View R E
adding_fresh v past = adding v (fresh v.seen past)

-- the view once the participant has freed the lock
abbrev pub leaving : {R E : Type 0} → View R E → View R E
leaving v = record v { holds_turn = false }

-- the view of a participant that makes another, once it has
abbrev pub splitting : {R E : Type 0} → View R E → View R E
splitting v = record v { made = v.made + 1 }

-- the view of the participant that another makes: it begins with all that the other has seen, and has the next number
abbrev pub split_off : {R E : Type 0} → View R E → View R E
split_off v = new_view v.made v.root v.seen 0

-- the view of the participant in which another ends, once it has
abbrev pub joining : {R E : Type 0} → View R E → View R E → View R E
joining v w = record v { seen = longer v.seen w.seen; ended = v.ended ++ (w.number, w.mine) ∷ w.ended; before = v.seen; heard = w.seen }

-- the view of a participant that ended in another, which the rule does not constrain
abbrev pub spent_view : {R E : Type 0} → View R E
spent_view = record (new_view 0 None [] 0) { live = false }
