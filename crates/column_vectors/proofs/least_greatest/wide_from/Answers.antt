use Rattle.std.proofs.Common.{◌<◌, ◌∙◌, arith, subst, sym, false, refl, rules, get_or, length, pos, FitsSigned}
use Rattle.std.specs.Int.{w128}
use Rattle.std.proofs.lemmas.Int.{to_z-of_z}
use Rattle.column_vectors.specs.Aggregates.{StaysWithin}
use Rattle.column_vectors.specs.Lanes.{numbers_of, values_in}
use Rattle.column_vectors.specs.declared.join.TheConstants.{WIDE_MOST}
use Rattle.column_vectors.proofs.Aggregated.{joined_flagged, known_size}
use Rattle.column_vectors.proofs.least_greatest.wide_from.Goals as goal

pub with_wide-total-requires : goal.with_wide-total-requires
with_wide-total-requires g c =
    let made : FitsSigned w128 c.get.result = search rules in
    let fits : FitsSigned w128 (get_or (numbers_of c.args.numbers.now) c.loop-i.i (pos 0)) = subst (FitsSigned w128) c.get.ensures made in
    let first_fits : FitsSigned w128 c.args.first = search rules in
    let stays = subst (λ z. StaysWithin g.J.Join.joins WIDE_MOST z (values_in (numbers_of c.args.numbers.now) c.args.known.now) c.args.from c.args.to) (sym (to_z-of_z w128 _ first_fits)) c.requires.fits in
    let low : c.loop-i.i < length c.args.known.now = omega (arith, c.loop-i-test.true, c.requires.there) in
    λ is.
    simp (c.get.ensures, to_z-of_z w128 _ fits)
    (known_size g.J.Join.joins _ _ _ (numbers_of c.args.numbers.now) c.args.known.now c.args.from c.loop-i.i c.args.to (omega (arith, c.loop-i.auto.i))
    c.loop-i-test.true low is stays c.loop-i.invariant)

pub loop-i-preserved : goal.loop-i-preserved
loop-i-preserved g c =
    let made : FitsSigned w128 c.get.result = search rules in
    let fits : FitsSigned w128 (get_or (numbers_of c.args.numbers.now) c.loop-i.i (pos 0)) = subst (FitsSigned w128) c.get.ensures made in
    let fits_made : FitsSigned w128 c.with_wide-total.result = search rules in
    let low : c.loop-i.i < length c.args.known.now = omega (arith, c.loop-i-test.true, c.requires.there) in
    let own = simp (c.get.ensures, to_z-of_z w128 _ fits) at c.with_wide-total.ensures in
    to_z-of_z w128 _ fits_made ∙ (own
    ∙ joined_flagged g.J.Join.joins _ _ (numbers_of c.args.numbers.now) c.args.known.now c.args.from c.loop-i.i (get_or c.args.known.now c.loop-i.i false)
    (omega (arith, c.loop-i.auto.i)) low refl c.loop-i.invariant)
