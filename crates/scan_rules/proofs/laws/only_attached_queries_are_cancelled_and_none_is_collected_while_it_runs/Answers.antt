use Rattle.scan_rules.proofs.Going.{cancelled_attached, collected_rests}
use Rattle.scan_rules.proofs.laws.only_attached_queries_are_cancelled_and_none_is_collected_while_it_runs.Goals as goal

pub returns : goal.returns
returns c = record {
  cancelled = λ ring past q run cancelled. cancelled_attached past q run cancelled;
  collected = λ ring past q run collected. collected_rests past q run collected;
}
