use Rattle.std.proofs.Common.{rules, ◌≡◌, ◌∙◌, w64, FitsSigned, to_z, of_z}
use Rattle.std.proofs.lemmas.Int.{to_z-of_z}
use Rattle.sky_vector.specs.Pos.{point}
use Rattle.sky_generate.proofs.Places.{at_parts, kept_nowhere, same_kept, same_parts}
use Rattle.sky_generate.proofs.place.kept.Goals as goal

pub returns-in-Some : goal.returns-in-Some
returns-in-Some c =
    let fits_x : FitsSigned w64 c.args.x = search rules in
    let fits_y : FitsSigned w64 c.args.y = search rules in
    let fits_z : FitsSigned w64 c.args.z = search rules in
    let passed = same_parts c.args.x c.args.y c.args.z _ _ _ (to_z-of_z w64 c.args.x fits_x)
    (to_z-of_z w64 c.args.y fits_y) (to_z-of_z w64 c.args.z fits_z) in
    let made : point c.in-Some.at ≡ at_parts (to_z w64 (of_z w64 c.args.x)) (to_z w64 (of_z w64 c.args.y))
    (to_z w64 (of_z w64 c.args.z)) = c.in-Some.ensures.made in
    same_kept (at_parts c.args.x c.args.y c.args.z) (point c.in-Some.at) (point c.kept_position.result)
    (made ∙ passed) c.kept_position.ensures

pub returns-in-None : goal.returns-in-None
returns-in-None c =
    let fits_x : FitsSigned w64 c.args.x = search rules in
    let fits_y : FitsSigned w64 c.args.y = search rules in
    let fits_z : FitsSigned w64 c.args.z = search rules in
    let x = to_z w64 (of_z w64 c.args.x) in
    let y = to_z w64 (of_z w64 c.args.y) in
    let z = to_z w64 (of_z w64 c.args.z) in
    let passed = same_parts c.args.x c.args.y c.args.z x y z (to_z-of_z w64 c.args.x fits_x)
    (to_z-of_z w64 c.args.y fits_y) (to_z-of_z w64 c.args.z fits_z) in
    same_kept (at_parts c.args.x c.args.y c.args.z) (at_parts x y z) (point c.meridian.result) passed
    (kept_nowhere x y z (point c.meridian.result) c.in-None.ensures.none c.meridian.ensures)
