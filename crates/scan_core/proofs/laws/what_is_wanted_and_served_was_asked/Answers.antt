use Rattle.scan_rules.proofs.Asked.{fronts_are_asked, served_is_asked, wanted_is_asked}
use Rattle.scan_core.proofs.laws.what_is_wanted_and_served_was_asked.Goals as goal

pub returns : goal.returns
returns g c = record {
  wanted = wanted_is_asked g.P.Work.asks;
  served = served_is_asked g.P.Work.asks;
  front = fronts_are_asked g.P.Work.asks;
}
