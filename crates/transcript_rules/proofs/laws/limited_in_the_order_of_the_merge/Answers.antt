use Rattle.transcript_rules.proofs.ChunkOrders.{limited_in_the_merges_order}
use Rattle.transcript_rules.proofs.laws.limited_in_the_order_of_the_merge.Goals as goal

pub returns : goal.returns
returns c = limited_in_the_merges_order
