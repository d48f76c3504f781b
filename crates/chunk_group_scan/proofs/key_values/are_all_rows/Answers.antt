use Rattle.std.proofs.Common.{arith}
use Rattle.std.proofs.lemmas.Bool.{OnTrue_from}
use Rattle.chunk_group_scan.proofs.KeyColumn.{all_rows}
use Rattle.chunk_group_scan.proofs.key_values.are_all_rows.Goals as goal

pub returns : goal.returns
returns c =
    OnTrue_from c.loop-i.all _
    (λ yes. all_rows c.args.places.now c.args.count (omega (arith, c.if-places-count.false)) (λ k low. c.loop-i.invariant yes k (omega (arith, low, c.loop-i-test.false))))
