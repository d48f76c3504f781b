use Rattle.sky_generate.proofs.rows.+fn-range_by-join+arg2+fn-range_by-join+arg3+range_by.Given as goal

abbrev pub decreases-join+arg2 : goal.decreases-join+arg2
decreases-join+arg2 g l = l.some

abbrev pub decreases-join+arg3 : goal.decreases-join+arg3
decreases-join+arg3 g l = l.others

abbrev pub decreases-range_by : goal.decreases-range_by
decreases-range_by g l = l.threads
