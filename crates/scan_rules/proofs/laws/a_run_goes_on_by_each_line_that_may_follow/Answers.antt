use Rattle.scan_rules.proofs.Runs.{front_runs, run_more, no_lines_run}
use Rattle.scan_rules.proofs.laws.a_run_goes_on_by_each_line_that_may_follow.Goals as goal

pub returns : goal.returns
returns c = record { start = no_lines_run; next = λ ring past line run may. run_more past line run may; front = λ ring front rest run. front_runs front rest run }
