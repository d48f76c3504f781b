use Rattle.chunk_store.proofs.blocks.+blocks_by+fn-blocks_by-join+arg2+fn-blocks_by-join+arg3.Given as goal

abbrev pub decreases-blocks_by : goal.decreases-blocks_by
decreases-blocks_by g l = l.threads

abbrev pub decreases-join+arg2 : goal.decreases-join+arg2
decreases-join+arg2 g l = l.low

abbrev pub decreases-join+arg3 : goal.decreases-join+arg3
decreases-join+arg3 g l = l.high
