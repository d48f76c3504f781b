use Rattle.std.proofs.Common.{◌≡◌, drop}
use Rattle.expr_eval.specs.Picks.{pick_of}
use Rattle.value_rules.specs.Truth.{meets}
use Rattle.expr_eval.proofs.cond.meets.Given as goal

abbrev pub invariant-loop-c : goal.invariant-loop-c
invariant-loop-c l =
    meets (drop l.c-index l.conds) (pick_of l.first l.second) ≡ meets l.conds (pick_of l.first l.second)
