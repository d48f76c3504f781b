use Rattle.std.proofs.Common.{arith}
use Rattle.partial_rows.proofs.PackedKeys.{sorted_again}
use Rattle.partial_rows.proofs.row_keys.sort_rows.Goals as goal

pub returns-clause-permutation : goal.returns-clause-permutation
returns-clause-permutation c =
    sorted_again c.as_mut_slice.result.now c.args.rows.now.items c.arrange.new.rows c.sort_unstable.new.self.items c.args.rows.now.len (omega (arith, c.args.rows.now.ok.0)) c.as_mut_slice.ensures.value c.arrange.ensures c.sort_unstable.ensures.permutation
