use Rattle.std.proofs.Common.{rules, FitsSigned, w64}
use Rattle.std.proofs.lemmas.Int.{to_z-of_z}
use Rattle.query_walks.proofs.AreaParts.{pos_by}
use Rattle.query_walks.proofs.arguments.pos_at.Goals as goal

pub returns : goal.returns
returns c =
    let x_fits : FitsSigned w64 c.args.x = search rules in
    let y_fits : FitsSigned w64 c.args.y = search rules in
    let z_fits : FitsSigned w64 c.args.z = search rules in
    pos_by c.args.x c.args.y c.args.z c.new.result
    (simp (to_z-of_z w64 c.args.x x_fits, to_z-of_z w64 c.args.y y_fits, to_z-of_z w64 c.args.z z_fits) at c.new.ensures.made)
    (simp (to_z-of_z w64 c.args.x x_fits, to_z-of_z w64 c.args.y y_fits, to_z-of_z w64 c.args.z z_fits) at c.new.ensures.none)
