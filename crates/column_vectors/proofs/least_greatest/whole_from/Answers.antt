use Rattle.std.proofs.Common.{◌<◌, ◌∙◌, arith, subst, sym, rules, get_or, length, pos, FitsSigned, w64}
use Rattle.std.proofs.lemmas.Int.{to_z-of_z}
use Rattle.column_vectors.specs.Aggregates.{StaysWithin}
use Rattle.column_vectors.specs.Lanes.{values_in}
use Rattle.column_vectors.specs.declared.join.TheConstants.{NARROW_MOST}
use Rattle.column_vectors.proofs.Aggregated.{joined_known, known_size}
use Rattle.column_vectors.proofs.least_greatest.whole_from.Goals as goal

pub narrow-total-requires : goal.narrow-total-requires
narrow-total-requires g c =
    let fits : FitsSigned w64 (get_or c.args.numbers.now c.loop-i.i (pos 0)) = search rules in
    let first_fits : FitsSigned w64 c.args.first = search rules in
    let stays = subst (λ z. StaysWithin g.J.Join.joins NARROW_MOST z (values_in c.args.numbers.now c.args.known.now) c.args.from c.args.to) (sym (to_z-of_z w64 _ first_fits)) c.requires.fits in
    let low : c.loop-i.i < length c.args.known.now = omega (arith, c.loop-i-test.true, c.requires.there, c.requires.count) in
    simp (to_z-of_z w64 _ fits)
    (known_size g.J.Join.joins _ _ _ c.args.numbers.now c.args.known.now c.args.from c.loop-i.i c.args.to (omega (arith, c.loop-i.auto.i))
    c.loop-i-test.true low (c.requires.known c.loop-i.i (omega (arith, c.loop-i.auto.i)) c.loop-i-test.true) stays c.loop-i.invariant)

pub loop-i-preserved : goal.loop-i-preserved
loop-i-preserved g c =
    let fits : FitsSigned w64 (get_or c.args.numbers.now c.loop-i.i (pos 0)) = search rules in
    let fits_made : FitsSigned w64 c.narrow-total.result = search rules in
    let low : c.loop-i.i < length c.args.known.now = omega (arith, c.loop-i-test.true, c.requires.there, c.requires.count) in
    let own = simp (to_z-of_z w64 _ fits) at c.narrow-total.ensures in
    to_z-of_z w64 _ fits_made ∙ (own
    ∙ joined_known g.J.Join.joins _ _ c.args.numbers.now c.args.known.now c.args.from c.loop-i.i (omega (arith, c.loop-i.auto.i)) low
    (c.requires.known c.loop-i.i (omega (arith, c.loop-i.auto.i)) c.loop-i-test.true) c.loop-i.invariant)
