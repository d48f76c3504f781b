use Rattle.std.proofs.Common.{rules, FitsSigned, w64}
use Rattle.std.proofs.lemmas.Int.{to_z-of_z}
use Rattle.query_walks.proofs.AreaParts.{dir_by}
use Rattle.query_walks.proofs.arguments.dir_at.Goals as goal

pub returns : goal.returns
returns c =
    let dx_fits : FitsSigned w64 c.args.dx = search rules in
    let dy_fits : FitsSigned w64 c.args.dy = search rules in
    dir_by c.args.dx c.args.dy c.new.result
    (simp (to_z-of_z w64 c.args.dx dx_fits, to_z-of_z w64 c.args.dy dy_fits) at c.new.ensures.made)
    (simp (to_z-of_z w64 c.args.dx dx_fits, to_z-of_z w64 c.args.dy dy_fits) at c.new.ensures.none)
