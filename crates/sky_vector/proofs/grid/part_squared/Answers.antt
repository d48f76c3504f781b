use Rattle.std.proofs.Common.{arith, ◌≤◌}
use Rattle.std.proofs.lemmas.Int.{ints}
use Rattle.std.proofs.Math.Nat.{mul-le-mul}
use Rattle.sky_vector.proofs.grid.part_squared.Goals as goal

pub returns-clause-most : goal.returns-clause-most
returns-clause-most c =
    let size : c.unsigned_abs-size.result ≤ 536870912 = omega (arith, ints) in mul-le-mul size size
