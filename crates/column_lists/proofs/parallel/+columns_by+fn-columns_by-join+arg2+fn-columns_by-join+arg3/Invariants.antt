use Rattle.column_lists.proofs.parallel.+columns_by+fn-columns_by-join+arg2+fn-columns_by-join+arg3.Given as goal

abbrev pub decreases-columns_by : goal.decreases-columns_by
decreases-columns_by g l = l.threads

abbrev pub decreases-join+arg2 : goal.decreases-join+arg2
decreases-join+arg2 g l = l.low

abbrev pub decreases-join+arg3 : goal.decreases-join+arg3
decreases-join+arg3 g l = l.high
