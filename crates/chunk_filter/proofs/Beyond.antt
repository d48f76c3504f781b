-- Numbers beyond all parts of a position.
use Rattle.std.proofs.Common.{◌≡◌, ℤ, ◌<ℤ◌, arith}
use Rattle.std.proofs.lemmas.Int.{ints}
use Rattle.sql_tree.specs.declared.cond.Cmp.{Cmp}
use Rattle.sql_tree.specs.declared.cond.Cmp.TheVariants.{Equal, Differs, Less, AtMost, More, AtLeast}
use Rattle.value_rules.specs.Truth.{compares}

-- two numbers above a part compare with it alike
pub above_alike : (op : Cmp) (part n m : ℤ) → part <ℤ n → part <ℤ m → compares op part n ≡ compares op part m
above_alike Equal part n m a b = grind (arith, ints)
above_alike Differs part n m a b = grind (arith, ints)
above_alike Less part n m a b = grind (arith, ints)
above_alike AtMost part n m a b = grind (arith, ints)
above_alike More part n m a b = grind (arith, ints)
above_alike AtLeast part n m a b = grind (arith, ints)

-- and so do two numbers below it
pub below_alike : (op : Cmp) (part n m : ℤ) → n <ℤ part → m <ℤ part → compares op part n ≡ compares op part m
below_alike Equal part n m a b = grind (arith, ints)
below_alike Differs part n m a b = grind (arith, ints)
below_alike Less part n m a b = grind (arith, ints)
below_alike AtMost part n m a b = grind (arith, ints)
below_alike More part n m a b = grind (arith, ints)
below_alike AtLeast part n m a b = grind (arith, ints)
