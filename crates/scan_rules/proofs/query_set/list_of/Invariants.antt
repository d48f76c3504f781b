use Rattle.std.proofs.Common.{◌≡◌, filter}
use Rattle.scan_rules.specs.Numbers.{below}
use Rattle.scan_rules.specs.QuerySets.{is_set}
use Rattle.scan_rules.proofs.query_set.list_of.Given as goal

abbrev pub invariant-loop-q : goal.invariant-loop-q
invariant-loop-q l = l.list.items ≡ filter (is_set l.words) (below l.q)
