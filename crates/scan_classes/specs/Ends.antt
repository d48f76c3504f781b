-- A lemma on the Attaches of two boards once all pairs have ended in the first one.
use Rattle.turn_lock.specs.Ends.{AllHaveEnded}
use Rattle.scan_classes.specs.declared.class.Class.{Class}
use Rattle.scan_classes.specs.Pairs.{AreOfClass, PairSeat, seat_at}

-- every other pair has ended in this one
pub record AllPairsHaveEnded {R : Type 0} (pair : PairSeat R) : Type 0 where
  pub short : AllHaveEnded pair.short
  pub long : AllHaveEnded pair.long

-- each query that the pair has seen attached to the board of a class, by whichever participant, is of that class
abbrev pub EachIsOfItsClass : {R : Type 0} → PairSeat R → Type 0
EachIsOfItsClass pair = (class : Class) → AreOfClass class (seat_at pair class).seen
