use Rattle.std.proofs.Common.{arith, ◌≤◌}
use Rattle.std.proofs.lemmas.Int.{ints}
use Rattle.std.proofs.Math.Nat.{mul-le-mul}
use Rattle.sky_vector.proofs.grid.gap_squared.Goals as goal

pub returns-clause-most : goal.returns-clause-most
returns-clause-most c =
    let gap : c.abs_diff-gap.result ≤ 1073741824 = omega (arith, ints) in mul-le-mul gap gap
