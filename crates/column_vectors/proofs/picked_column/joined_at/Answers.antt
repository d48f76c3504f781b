use Rattle.std.proofs.Common.{◌<◌, ◌∙◌, Some, arith, get_or, length, map, pos, rules, subst, sym, FitsSigned, w64}
use Rattle.std.proofs.lemmas.Int.{to_z-of_z}
use Rattle.column_vectors.specs.Aggregates.{StaysWithin}
use Rattle.column_vectors.specs.PickedColumns.{numbers_at}
use Rattle.column_vectors.specs.declared.join.TheConstants.{NARROW_MOST}
use Rattle.column_vectors.proofs.PickedColumns.{count_at, some_joined, some_size}
use Rattle.column_vectors.proofs.picked_column.joined_at.Goals as goal

pub narrow-total-requires : goal.narrow-total-requires
narrow-total-requires g c =
    let numbers = numbers_at c.args.values.now c.args.places.now in
    let made : FitsSigned w64 c.number_at.result = search rules in
    let fits : FitsSigned w64 (get_or numbers c.loop-i.i (pos 0)) = subst (FitsSigned w64) c.number_at.ensures made in
    let first_fits : FitsSigned w64 c.args.first = search rules in
    let stays = subst (λ z. StaysWithin g.J.Join.joins NARROW_MOST z (map Some numbers) c.args.from c.args.to) (sym (to_z-of_z w64 _ first_fits)) c.requires.fits in
    let low : c.loop-i.i < length numbers = omega (arith, c.loop-i-test.true, c.requires.within, count_at c.args.values.now c.args.places.now) in
    simp (c.number_at.ensures, to_z-of_z w64 _ fits)
    (some_size g.J.Join.joins _ _ _ numbers c.args.from c.loop-i.i c.args.to (omega (arith, c.loop-i.auto.i)) c.loop-i-test.true low stays c.loop-i.invariant)

pub loop-i-preserved : goal.loop-i-preserved
loop-i-preserved g c =
    let numbers = numbers_at c.args.values.now c.args.places.now in
    let made : FitsSigned w64 c.number_at.result = search rules in
    let fits : FitsSigned w64 (get_or numbers c.loop-i.i (pos 0)) = subst (FitsSigned w64) c.number_at.ensures made in
    let fits_made : FitsSigned w64 c.narrow-total.result = search rules in
    let low : c.loop-i.i < length numbers = omega (arith, c.loop-i-test.true, c.requires.within, count_at c.args.values.now c.args.places.now) in
    let own = simp (c.number_at.ensures, to_z-of_z w64 _ fits) at c.narrow-total.ensures in
    to_z-of_z w64 _ fits_made ∙ (own
    ∙ some_joined g.J.Join.joins _ _ numbers c.args.from c.loop-i.i (omega (arith, c.loop-i.auto.i)) low c.loop-i.invariant)
