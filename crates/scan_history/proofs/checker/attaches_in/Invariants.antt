use Rattle.std.proofs.Common.{◌≡◌, take, count_by}
use Rattle.scan_rules.specs.Lines.{is_attach}
use Rattle.scan_history.proofs.checker.attaches_in.Given as goal

abbrev pub invariant-loop-line : goal.invariant-loop-line
invariant-loop-line l = l.count ≡ count_by is_attach (take l.line-index l.lines)
