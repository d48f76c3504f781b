-- What a participant learns from each kind of step on the word.
use Rattle.std.specs.Prelude.{◌≡◌, ◌≢◌, ℕ, List, [], ◌∷◌, Option, Some, None}
use mathlib.Core.List.{IsPrefix}
use Rattle.atomic_table.specs.Table.{Me, Step}
use Rattle.turn_lock.specs.Views.{ViewKnows, holding, adding, leaving}
use Rattle.turn_lock.specs.declared.view.View.{View}

-- What a participant learns by entering: its new view has all entries of the value's history, which begins with what
-- was seen.
pub record Enters {T R E : Type 0} (root_of : T → R) (past_of : T → List E) (seat_of : E → ℕ) (v : View R E) (value : T) (w : View R E) : Type 0 where
  pub view : w ≡ holding v (past_of value)
  pub root_is : Some (root_of value) ≡ v.root
  pub later : IsPrefix v.seen (past_of value)
  pub knows : ViewKnows seat_of w

-- the participant holds the lock, and has taken this value out of the slot
abbrev pub TookOut : {T R E : Type 0} → (T → R) → (T → List E) → (E → ℕ) → Me (Option T) (View R E) → T
    → Me (Option T) (View R E) → Type 0
TookOut root_of past_of seat_of old value new = (new.1 ≡ (0, None) ∷ []) × Enters root_of past_of seat_of old.0 value new.0

-- a compare_exchange from a free lock's word: if the word was that, the participant holds the lock; else nothing
-- changes
abbrev pub tried : {T R E : Type 0} → (T → R) → (T → List E) → (E → ℕ) → Step (Option T) → Me (Option T) (View R E)
    → ℕ → Me (Option T) (View R E) → Type 0
tried {T} root_of past_of seat_of s m n w =
    (n ≡ s.first → (value : T) × (w.1 ≡ (0, Some value) ∷ []) × Enters root_of past_of seat_of m.0 value w.0) × (n ≢ s.first → w ≡ m)

-- a store that makes these entries part of the history
abbrev pub added : {T R E : Type 0} → List E → Step (Option T) → Me (Option T) (View R E) → ℕ → Me (Option T)
    (View R E) → Type 0
added es s m n w = (w.0 ≡ adding m.0 es) × (w.1 ≡ m.1)

-- a store that frees the lock and puts the value back
abbrev pub gave : {T R E : Type 0} → (E → ℕ) → Step (Option T) → Me (Option T) (View R E) → ℕ → Me (Option T)
    (View R E) → Type 0
gave seat_of s m n w = (w ≡ (leaving m.0, [])) × ViewKnows seat_of w.0

-- a load after another participant has ended in this one: both had seen prefixes of what this one has seen
abbrev pub heard : {T R E : Type 0} → (E → ℕ) → Step (Option T) → Me (Option T) (View R E) → ℕ → Me (Option T)
    (View R E) → Type 0
heard seat_of s m n w = (w ≡ m) × IsPrefix m.0.before m.0.seen × IsPrefix m.0.heard m.0.seen × ViewKnows seat_of m.0
