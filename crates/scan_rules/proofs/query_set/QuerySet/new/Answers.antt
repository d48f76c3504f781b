use Rattle.std.proofs.Common.{refl}
use Rattle.scan_rules.specs.Numbers.{below}
use Rattle.scan_rules.proofs.query_set.QuerySet.new.Goals as goal

pub returns : goal.returns
unfolding below
returns c = refl
