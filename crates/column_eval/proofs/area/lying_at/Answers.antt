use Rattle.std.proofs.Common.{◌≤◌, sym, subst, get_or, length, pos, rules, FitsSigned, w32}
use Rattle.std.proofs.lemmas.Int.{to_z-of_z}
use Rattle.column_vectors.specs.Flags.{area_at}
use Rattle.column_vectors.proofs.Masked.{mask_more}
use Rattle.column_eval.proofs.area.lying_at.Goals as goal

pub loop-place-preserved : goal.loop-place-preserved
loop-place-preserved c =
    let fits_x : FitsSigned w32 (get_or c.args.xs.now (get_or c.args.places.now c.loop-place.place-index 0) (pos 0)) = search rules in
    let fits_y : FitsSigned w32 (get_or c.args.ys.now (get_or c.args.places.now c.loop-place.place-index 0) (pos 0)) = search rules in
    let fits_z : FitsSigned w32 (get_or c.args.zs.now (get_or c.args.places.now c.loop-place.place-index 0) (pos 0)) = search rules in
    let own = simp (to_z-of_z w32 _ fits_x, to_z-of_z w32 _ fits_y, to_z-of_z w32 _ fits_z) at c.lies_in.ensures in
    record {
      mask = mask_more (λ k. area_at c.args.test.now c.args.xs.now c.args.ys.now c.args.zs.now (get_or c.args.places.now k 0))
          c.loop-place.place-index c.loop-place.found.items _ c.lies_in.result c.loop-place.invariant.mask c.push_reserved.ensures.items own;
      room = subst (λ n. length c.args.places.now ≤ n) (sym c.push_reserved.ensures.capacity) c.loop-place.invariant.room;
    }
