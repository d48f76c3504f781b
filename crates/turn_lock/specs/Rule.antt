-- The rule of the lock: what holds between any two steps, whichever participant makes them.
use Rattle.std.specs.Prelude.{◌≡◌, ◌≢◌, ℕ, ◌+◌, ◌*◌, ◌<◌, ◌≤◌, List, [], ◌∷◌, length, false, true, Option, Some, Contains, ◌⊎◌}
use mathlib.Core.Option.{some, none}
use mathlib.Core.List.{IsPrefix}
use lib.ListN.{get_elem?}
use Rattle.atomic_table.specs.Table.{State}
use Rattle.turn_lock.specs.Pasts.{of_seat}
use Rattle.turn_lock.specs.declared.view.View.{View}

-- the words, slots and views of a lock's table
abbrev pub TurnState : Type 0 → Type 0 → Type 0 → Type 0
TurnState T R E = State (Option T) (View R E)

-- the participant at this position has this view
abbrev pub HasView : {R E : Type 0} → List (View R E) → ℕ → View R E → Type 0
HasView views k v = get_elem? views k ≡ some v

-- The lock is free: the word is twice the length of the history, and the value with that history is in the slot.
pub record IsFree {T R E : Type 0} (root_of : T → R) (past_of : T → List E) (root : R) (now : List E) (s : TurnState T R E) : Type 0 where
  pub word : s.words ≡ 2 * length now ∷ []
  pub value : T
  pub home : s.homes ≡ some (Some value) ∷ []
  pub root_is : root_of value ≡ root
  pub past_is : past_of value ≡ now
  pub idle : (k : ℕ) (v : View R E) → HasView s.views k v → v.holds_turn ≡ false

-- The lock is held: the word is odd, the value is out, and exactly one view holds the lock, which has seen all.
pub record IsHeld {T R E : Type 0} (now : List E) (s : TurnState T R E) : Type 0 where
  pub word : s.words ≡ (2 * length now + 1) ∷ []
  pub home : s.homes ≡ none ∷ []
  pub by : ℕ
  pub view : View R E
  pub at : HasView s.views by view
  pub live : view.live ≡ true
  pub holds : view.holds_turn ≡ true
  pub seen : view.seen ≡ now
  pub only : (k : ℕ) (v : View R E) → HasView s.views k v → v.holds_turn ≡ true → k ≡ by

-- What a live view says of the root, the history and the number of participants made.
pub record Fits {R E : Type 0} (seat_of : E → ℕ) (root : R) (now : List E) (made : ℕ) (v : View R E) : Type 0 where
  pub root_is : v.root ≡ Some root
  pub below : v.number < made
  pub first : v.number ≡ 0 → v.made ≡ made
  -- what was seen is a prefix of the history; the lists that two joined participants had seen are prefixes of what was
  -- seen
  pub seen : IsPrefix v.seen now
  pub before : IsPrefix v.before v.seen
  pub heard : IsPrefix v.heard v.seen
  -- the participant's own entries are all seen, and so are those of each ended number
  pub mine : of_seat seat_of v.number now ≡ v.mine
  pub mine_seen : of_seat seat_of v.number v.seen ≡ v.mine
  pub ended : (n : ℕ) (es : List E) → Contains v.ended (n, es)
      → (n < made) × (n ≢ v.number) × (of_seat seat_of n now ≡ es) × (of_seat seat_of n v.seen ≡ es)

-- Two live views have different numbers, no participant has ended in both, and neither has ended in the other.
pub record AreApart {R E : Type 0} (v w : View R E) : Type 0 where
  pub numbers : v.number ≢ w.number
  pub ended : (n : ℕ) (es : List E) → Contains v.ended (n, es)
      → (n ≢ w.number) × ((fs : List E) → Contains w.ended (n, fs) → ⊥)

-- The rule: one root, one history and one number of participants made, which all live views fit.
pub record Kept {T R E : Type 0} (root_of : T → R) (past_of : T → List E) (seat_of : E → ℕ) (s : TurnState T R E) : Type 0 where
  pub root : R
  pub now : List E
  pub made : ℕ
  pub turn : IsFree root_of past_of root now s ⊎ IsHeld now s
  pub each : (k : ℕ) (v : View R E) → HasView s.views k v → v.live ≡ true → Fits seat_of root now made v
  pub apart : (j k : ℕ) (v w : View R E) → HasView s.views j v → HasView s.views k w → j ≢ k → v.live ≡ true
      → w.live ≡ true → AreApart v w
  -- no entry carries a number that no participant has
  pub above : (n : ℕ) → made ≤ n → of_seat seat_of n now ≡ []
