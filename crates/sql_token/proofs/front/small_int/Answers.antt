use Rattle.std.proofs.Common.{arith}
use Rattle.std.proofs.lemmas.Grind.{common_steps}
use Rattle.sql_token.proofs.Ints.{too_large}
use Rattle.sql_token.proofs.front.small_int.Goals as goal

pub returns-in_err-checked_mul : goal.returns-in_err-checked_mul
returns-in_err-checked_mul c =
    let large = too_large c.loop-b.n c.loop-b.b-index _ c.args.digits.now c.loop-b.invariant.value (omega arith) (omega (arith, c.in_err-checked_mul.ensures)) in
    grind (arith, common_steps, large)

pub returns-in_err-n : goal.returns-in_err-n
returns-in_err-n c =
    let large = too_large c.loop-b.n c.loop-b.b-index _ c.args.digits.now c.loop-b.invariant.value (omega arith) (omega (arith, c.in_err-n.ensures, c.in_ok-checked_mul.ensures)) in
    grind (arith, common_steps, large)
