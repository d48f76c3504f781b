use Rattle.std.proofs.Common.{arith}
use Rattle.answer_text.proofs.row_line.push_further_values.Goals as goal

pub push_further_value-requires : goal.push_further_value-requires
push_further_value-requires c = record { room = omega (arith, c.requires.room, c.loop-left.invariant.few, c.loop-left-test.true) }
