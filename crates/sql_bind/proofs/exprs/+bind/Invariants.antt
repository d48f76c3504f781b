use Rattle.std.proofs.Common.{◌≡◌, ◌++◌, map, drop}
use Rattle.sql_bind.specs.Layers.{bound_factor, bound_signed}
use Rattle.sql_bind.proofs.exprs.+bind.Given as goal

abbrev pub invariant-bound_factors-loop-factor : goal.invariant-bound_factors-loop-factor
invariant-bound_factors-loop-factor g l = map (bound_factor (g.C.Columns.means l.columns)) l.rest ≡ l.found ++ map (bound_factor (g.C.Columns.means l.columns)) (drop l.factor-index l.rest)

abbrev pub invariant-bound_signeds-loop-signed : goal.invariant-bound_signeds-loop-signed
invariant-bound_signeds-loop-signed g l = map (bound_signed (g.C.Columns.means l.columns)) l.rest ≡ l.found ++ map (bound_signed (g.C.Columns.means l.columns)) (drop l.signed-index l.rest)
