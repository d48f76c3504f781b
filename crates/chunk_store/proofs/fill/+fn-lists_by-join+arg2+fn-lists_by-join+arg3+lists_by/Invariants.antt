use Rattle.chunk_store.proofs.fill.+fn-lists_by-join+arg2+fn-lists_by-join+arg3+lists_by.Given as goal

abbrev pub decreases-join+arg2 : goal.decreases-join+arg2
decreases-join+arg2 g l = l.low

abbrev pub decreases-join+arg3 : goal.decreases-join+arg3
decreases-join+arg3 g l = l.high

abbrev pub decreases-lists_by : goal.decreases-lists_by
decreases-lists_by g l = l.threads
