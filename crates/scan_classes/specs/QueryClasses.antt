-- The boards of two classes, and the class of each query.
use Rattle.std.specs.Prelude.{ℕ, List, Bool, true, false, get_or}
use Rattle.scan_classes.specs.declared.class.Class.{Class}
use Rattle.scan_classes.specs.declared.class.Class.TheVariants.{Short, Long}
use Rattle.scan_classes.specs.Pairs.{ClassTurns}

-- the identities of the boards' locks, and the class of each query by its number, from 0
pub record QueryClasses : Type 0 where
  pub turns : ClassTurns
  pub classes : List Class

-- the class of a query; Short if its number is not in the list
abbrev pub class_in : QueryClasses → ℕ → Class
class_in boards q = get_or boards.classes q Short

-- whether two classes are equal
abbrev pub same_class : Class → Class → Bool
same_class Short Short = true
same_class Short Long = false
same_class Long Short = false
same_class Long Long = true
