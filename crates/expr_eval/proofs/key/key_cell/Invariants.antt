use Rattle.std.proofs.Common.{◌≡◌, drop}
use Rattle.value_rules.specs.Keys.{key_cell}
use Rattle.expr_eval.proofs.key.key_cell.Given as goal

abbrev pub invariant-loop-place : goal.invariant-loop-place
invariant-loop-place l = key_cell (drop l.place l.keys) (drop l.place l.key) l.col ≡ key_cell l.keys l.key l.col
