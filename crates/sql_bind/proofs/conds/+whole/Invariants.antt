use Rattle.std.proofs.Common.{◌≡◌, ◌++◌, map, drop}
use Rattle.std.specs.Option.{option_map}
use Rattle.bind_rules.specs.Wholes.{all_there, bound_all, bound_cond}
use Rattle.sql_bind.proofs.conds.+whole.Given as goal

abbrev pub invariant-whole_conjs-loop-conj : goal.invariant-whole_conjs-loop-conj
invariant-whole_conjs-loop-conj g l = all_there (map (bound_all (g.C.Columns.means l.columns)) l.rest) ≡ option_map (λ ys. l.found ++ ys) (all_there (map (bound_all (g.C.Columns.means l.columns)) (drop l.conj-index l.rest)))

abbrev pub invariant-whole_negs-loop-neg : goal.invariant-whole_negs-loop-neg
invariant-whole_negs-loop-neg g l = all_there (map (bound_cond (g.C.Columns.means l.columns)) l.rest) ≡ option_map (λ ys. l.found ++ ys) (all_there (map (bound_cond (g.C.Columns.means l.columns)) (drop l.neg-index l.rest)))
