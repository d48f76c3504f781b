use Rattle.std.proofs.Common.{◌≡◌, ◌++◌, drop}
use Rattle.std.specs.List.{flat_map}
use Rattle.sql_bind.specs.Layers.{conds_of_neg}
use Rattle.sql_bind.proofs.conjuncts.+top.Given as goal

abbrev pub invariant-add_negs-loop-neg : goal.invariant-add_negs-loop-neg
invariant-add_negs-loop-neg g l = l.fn.found ++ flat_map (conds_of_neg (g.C.Columns.means l.columns)) l.rest ≡ l.found ++ flat_map (conds_of_neg (g.C.Columns.means l.columns)) (drop l.neg-index l.rest)
