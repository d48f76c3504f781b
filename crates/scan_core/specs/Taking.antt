-- What the slots say about the next chunk, and how a take changes them.
use Rattle.std.specs.Prelude.{◌≡◌, ℕ, ◌<◌, ◌≤◌, ◌==◌, List, [], ◌∷◌, ◌++◌}
use Rattle.std.specs.Prelude.{length, get_or, Bool, true, false, Option, Some, None, min, filter}
use Rattle.std.specs.List.{last_or}
use Rattle.scan_rules.specs.Numbers.{below}
use Rattle.scan_core.specs.declared.limits.TheConstants.{SLOTS, TAKERS_MOST}
use Rattle.scan_core.specs.declared.slot.Slot.{Slot}
use Rattle.scan_core.specs.Changes.{Beside}
use Rattle.scan_rules.specs.Scan.{offset}

-- the chunk that a slot needs next
abbrev pub next_of : Slot → Option ℕ
next_of s = last_or None s.ahead.items

-- the number of steps to a chunk, or the ring's length if there is none
abbrev pub step_from : ℕ → ℕ → Option ℕ → ℕ
step_from ring p None = ring
step_from ring p (Some c) = offset ring p c

-- the number of steps to the chunk that a slot needs next
abbrev pub first_step : ℕ → ℕ → Slot → ℕ
first_step ring p s = step_from ring p (next_of s)

-- the least of these numbers over all slots
abbrev pub least_from : ℕ → ℕ → ℕ → List Slot → ℕ
least_from ring p best [] = best
least_from ring p best (s ∷ ss) = least_from ring p (min best (first_step ring p s)) ss

-- the option is this chunk
abbrev pub is_at : ℕ → Option ℕ → Bool
is_at c None = false
is_at c (Some x) = x == c

-- the slot needs this chunk next
abbrev pub is_next : ℕ → Slot → Bool
is_next c s = is_at c (next_of s)

-- those of the first n slots that need this chunk next
abbrev pub served : List Slot → Slot → ℕ → ℕ → List ℕ
served slots d c n = filter (λ q. is_next c (get_or slots q d)) (below n)

-- a slot whose query was served its next chunk, if that is c
pub record Popped (c : ℕ) (old new : Slot) : Type 0 where
  pub attached : new.attached ≡ old.attached
  pub cancelled : new.cancelled ≡ old.cancelled
  pub lost : new.lost ≡ old.lost
  pub collected : new.collected ≡ old.collected
  pub owed : new.owed ≡ old.owed
  pub next : is_next c old ≡ true → old.ahead.items ≡ new.ahead.items ++ c ∷ []
  pub kept : is_next c old ≡ false → new.ahead.items ≡ old.ahead.items

-- only the slot at position q changed, which was served its next chunk if that is c
pub record PoppedAt (c : ℕ) (old new : List Slot) (q : ℕ) : Type 0 where
  pub beside : Beside old new q
  pub here : (d : Slot) → Popped c (get_or old q d) (get_or new q d)

-- the first n slots were served their next chunk, if that is c
pub record PoppedAll (c : ℕ) (old new : List Slot) (n : ℕ) : Type 0 where
  pub len : length new ≡ length old
  pub each : (j : ℕ) (d : Slot) → j < n → Popped c (get_or old j d) (get_or new j d)
  pub other : (j : ℕ) (d : Slot) → (j < n → ⊥) → get_or new j d ≡ get_or old j d

-- the queries that need a chunk next have numbers from 1, and fit into one task
pub record CanServe (slots : List Slot) (chunk : ℕ) : Type 0 where
  pub few : (d : Slot) → length (served slots d chunk SLOTS) ≤ TAKERS_MOST
  pub from_1 : (q : ℕ) (d : Slot) → q < SLOTS → is_next chunk (get_or slots q d) ≡ true → 1 ≤ q
