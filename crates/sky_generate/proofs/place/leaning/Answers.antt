use Rattle.std.proofs.Common.{rules, ◌≡◌, ◌∙◌, ap, pos, ◌*ℤ◌, w64, FitsSigned, to_z, of_z}
use Rattle.std.proofs.lemmas.Bool.{ne_eqb}
use Rattle.std.proofs.lemmas.Int.{to_z-of_z}
use Rattle.sky_vector.specs.Pos.{point}
use Rattle.demo_rules.specs.DemoRows.{cut_quotient}
use Rattle.sky_generate.proofs.Places.{leaning_kept}
use Rattle.sky_generate.proofs.place.leaning.Goals as goal

pub returns : goal.returns
returns c =
    let fits_u : FitsSigned w64 c.args.u = search rules in
    let fits_v : FitsSigned w64 c.args.v = search rules in
    let fits_z : FitsSigned w64 c.args.z = search rules in
    let fits_s : FitsSigned w64 c.stretched.result = search rules in
    let fits_r : FitsSigned w64 c.stretched-2.result = search rules in
    let fits_a : FitsSigned w64 c.cut.result = search rules in
    let fits_b : FitsSigned w64 c.cut-2.result = search rules in
    let by_u : c.stretched.result ≡ to_z w64 (of_z w64 c.args.u) *ℤ pos c.args.from_axis = c.stretched.ensures.value in
    let by_v : c.stretched-2.result ≡ to_z w64 (of_z w64 c.args.v) *ℤ pos c.args.from_axis = c.stretched-2.ensures.value in
    let cut_u : c.cut.result ≡ cut_quotient (to_z w64 (of_z w64 c.stretched.result)) c.args.long = c.cut.ensures in
    let cut_v : c.cut-2.result ≡ cut_quotient (to_z w64 (of_z w64 c.stretched-2.result)) c.args.long = c.cut-2.ensures in
    let long_u = to_z-of_z w64 c.stretched.result fits_s ∙ by_u
    ∙ ap (λ n. n *ℤ pos c.args.from_axis) (to_z-of_z w64 c.args.u fits_u) in
    let long_v = to_z-of_z w64 c.stretched-2.result fits_r ∙ by_v
    ∙ ap (λ n. n *ℤ pos c.args.from_axis) (to_z-of_z w64 c.args.v fits_v) in
    leaning_kept c.args.z c.args.u c.args.v c.args.from_axis c.args.long (point c.kept.result)
    (to_z w64 (of_z w64 c.cut.result)) (to_z w64 (of_z w64 c.cut-2.result)) (to_z w64 (of_z w64 c.args.z))
    (ne_eqb c.args.long 0 c.if-long-eq0.false)
    (to_z-of_z w64 c.cut.result fits_a ∙ cut_u ∙ ap (λ n. cut_quotient n c.args.long) long_u)
    (to_z-of_z w64 c.cut-2.result fits_b ∙ cut_v ∙ ap (λ n. cut_quotient n c.args.long) long_v)
    (to_z-of_z w64 c.args.z fits_z) c.kept.ensures
