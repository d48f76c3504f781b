use Rattle.std.proofs.Common.{◌≡◌, ◌≤◌, length}
use Rattle.text_rules.specs.declared.limits.TheConstants.{TEXT_MOST}
use Rattle.session_script.proofs.ReadSoFar.{ReadSoFar}
use Rattle.session_script.proofs.script.Script.read.Given as goal

abbrev pub invariant-loop-line : goal.invariant-loop-line
invariant-loop-line l = record {
  can_next : (goal.iterator-loop-line).can_next l.line-iterator;
  is_finite : (goal.iterator-loop-line).is_finite l.line-iterator;
  read_so_far : ReadSoFar l.text l.place l.line-iterator l.script.steps;
  same : l.script.text ≡ l.text;
  short : length l.text ≤ TEXT_MOST;
}
