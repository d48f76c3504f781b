use Rattle.std.proofs.Common.{◌≡◌, take, count_by}
use Rattle.scan_rules.specs.Lines.{takes}
use Rattle.scan_history.proofs.checker.takes_in.Given as goal

abbrev pub invariant-loop-line : goal.invariant-loop-line
invariant-loop-line l = l.count ≡ count_by takes (take l.line-index l.lines)
