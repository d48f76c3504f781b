use Rattle.std.proofs.Common.{◌≡◌, ◌∷◌, ◌++◌, map, drop}
use Rattle.bind_rules.specs.Forms.{int_value}
use Rattle.sql_bind.proofs.ints.values_of.Given as goal

abbrev pub invariant-loop-int : goal.invariant-loop-int
invariant-loop-int l = map int_value (l.list.first ∷ l.list.rest) ≡ l.ints ++ map int_value (drop l.int-index l.list.rest)
