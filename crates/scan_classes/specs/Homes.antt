-- Each query has a board: that of its class.
use Rattle.std.specs.Prelude.{◌≡◌, ℕ, true, refl}
use Rattle.scan_classes.specs.declared.class.Class.{Class}
use Rattle.scan_classes.specs.declared.class.Class.TheVariants.{Short, Long}
use Rattle.scan_classes.specs.QueryClasses.{QueryClasses, class_in, same_class}

-- a class equals itself
pub its_own : (class : Class) → same_class class class ≡ true
its_own Short = refl
its_own Long = refl

-- the board of a query's class is the query's board
pub housed : (boards : QueryClasses) (q : ℕ) → same_class (class_in boards q) (class_in boards q) ≡ true
housed boards q = its_own (class_in boards q)
