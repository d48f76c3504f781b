-- What is visible to contracts of a guard.
use Rattle.turn_lock.specs.Seats.{Seated}

-- The value, and the participant that holds the lock: `seen` is the history as it was when the participant entered.
pub record Entered (T R E : Type 0) : Type 0 where
  pub seat : Seated R E
  pub value : T

-- the guard once its value is this
abbrev pub with_value : {T R E : Type 0} → Entered T R E → T → Entered T R E
with_value pass t = record pass { value = t }
