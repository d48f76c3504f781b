use Rattle.scan_rules.proofs.Serving.{given_is_served, served_is_wanted}
use Rattle.scan_rules.proofs.Giving.{given_same, is_given_deliver, served_is, not_given_before}
use Rattle.scan_rules.proofs.laws.what_is_given_changes_by_delivers_alone.Goals as goal

pub returns : goal.returns
returns c = record {
  wanted = λ ring past q chunk run given. (served_is_wanted past q chunk run (given_is_served past past q chunk given)).1;
  same = λ ring past line q run may attached other. given_same ring past line q run may attached other;
  more = is_given_deliver;
  ticket = λ ring before rest seat ticket taking queries q chunk run. served_is before seat ticket taking queries rest q chunk run;
  new = λ ring before rest seat ticket taking queries q run there in_flight. not_given_before before seat ticket taking queries rest q run there in_flight;
}
