use Rattle.std.proofs.Common.{◌≡◌, ◌∙◌, ap, sym, subst, get_or, pos, rules, FitsSigned, w32}
use Rattle.std.proofs.lemmas.Int.{to_z-of_z}
use Rattle.std.specs.Prelude.{All}
use Rattle.sky_vector.specs.Points.{IsWithin}
use Rattle.column_lists.proofs.Gathering.{point_same}
use Rattle.column_lists.proofs.Rowed.{xs_within, ys_within, zs_within}
use Rattle.column_lists.proofs.lists.Lists.position.Goals as goal

pub returns : goal.returns
returns c =
    let x : c.part_at.result ≡ get_or c.args.self.now.xs c.args.i (pos 0) = c.part_at.ensures.value ∙ ap (λ l. get_or l c.args.i (pos 0)) (c.as_slice.ensures.value ∙ ap (λ p. p.xs) c.self.view_is) in
    let y : c.part_at-2.result ≡ get_or c.args.self.now.ys c.args.i (pos 0) = c.part_at-2.ensures.value ∙ ap (λ l. get_or l c.args.i (pos 0)) (c.as_slice-2.ensures.value ∙ ap (λ p. p.ys) c.self.view_is) in
    let z : c.part_at-3.result ≡ get_or c.args.self.now.zs c.args.i (pos 0) = c.part_at-3.ensures.value ∙ ap (λ l. get_or l c.args.i (pos 0)) (c.as_slice-3.ensures.value ∙ ap (λ p. p.zs) c.self.view_is) in
    let fits_x : FitsSigned w32 c.part_at.result = search rules in
    let fits_y : FitsSigned w32 c.part_at-2.result = search rules in
    let fits_z : FitsSigned w32 c.part_at-3.result = search rules in
    let is = simp (to_z-of_z w32 c.part_at.result fits_x, to_z-of_z w32 c.part_at-2.result fits_y, to_z-of_z w32 c.part_at-3.result fits_z) at c.point_of.ensures in
    is ∙ point_same _ _ _ _ _ _ x y z

pub part_at-requires-clause-within : goal.part_at-requires-clause-within
part_at-requires-clause-within c = subst (All IsWithin) (sym (c.as_slice.ensures.value ∙ ap (λ p. p.xs) c.self.view_is)) (xs_within c.args.self.now c.requires.rows)

pub part_at-requires-2-clause-within : goal.part_at-requires-2-clause-within
part_at-requires-2-clause-within c = subst (All IsWithin) (sym (c.as_slice-2.ensures.value ∙ ap (λ p. p.ys) c.self.view_is)) (ys_within c.args.self.now c.requires.rows)

pub part_at-requires-3-clause-within : goal.part_at-requires-3-clause-within
part_at-requires-3-clause-within c = subst (All IsWithin) (sym (c.as_slice-3.ensures.value ∙ ap (λ p. p.zs) c.self.view_is)) (zs_within c.args.self.now c.requires.rows)
