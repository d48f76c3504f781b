use Rattle.std.proofs.Common.{arith}
use Rattle.chunk_group_scan.proofs.key_order.by_key.Goals as goal

pub reorder-requires-clause-few : goal.reorder-requires-clause-few
reorder-requires-clause-few c = λ k d low. omega (arith, c.requires.there k d low, c.requires.few)
