use Rattle.std.proofs.Common.{rules, ◌∙◌, w64, FitsSigned}
use Rattle.std.proofs.lemmas.Int.{to_z-of_z}
use Rattle.sky_vector.specs.Pos.{point}
use Rattle.sky_generate.proofs.Places.{stands_admissible, stands_by}
use Rattle.sky_generate.proofs.place.place.Goals as goal

pub returns-clause-stands : goal.returns-clause-stands
returns-clause-stands c =
    let fits_z : FitsSigned w64 c.height_by-z.result = search rules in
    let fits_u : FitsSigned w64 c.lean_by-u.result = search rules in
    let fits_v : FitsSigned w64 c.lean_by-v.result = search rules in
    stands_by c.args.height c.args.lean_x c.args.lean_y c.from_axis.result c.length_of.result _ _ _
    (point c.leaning.result) (to_z-of_z w64 c.height_by-z.result fits_z ∙ c.height_by-z.ensures.value)
    (to_z-of_z w64 c.lean_by-u.result fits_u ∙ c.lean_by-u.ensures.value)
    (to_z-of_z w64 c.lean_by-v.result fits_v ∙ c.lean_by-v.ensures.value)
    c.from_axis.ensures.root c.length_of.ensures c.leaning.ensures

pub returns-clause-admissible : goal.returns-clause-admissible
returns-clause-admissible c =
    stands_admissible c.args.height c.args.lean_x c.args.lean_y (point c.leaning.result) (returns-clause-stands c)
