use Rattle.std.proofs.Common.{rules, ap, sym, ◌∙◌, w64, FitsSigned, get_or, pos, Some}
use Rattle.std.proofs.lemmas.Int.{to_z-of_z}
use Rattle.column_lists.proofs.Kept.{told_at}
use Rattle.column_lists.specs.Cells.{told}
use Rattle.column_lists.proofs.cells.Cells.get.Goals as goal

pub returns : goal.returns
returns c =
    let fits : FitsSigned w64 (get_or c.as_slice-numbers.result.now c.args.i (pos 0)) = search rules in
    let same = ap (λ l. told (get_or l c.args.i (pos 0))) c.as_slice-numbers.ensures in
    let at = told_at _ _ _ _ (pos 0) c.self.view_is c.requires in
    at ∙ ap Some (sym (c.told.ensures ∙ (ap told (to_z-of_z w64 _ fits) ∙ same)))
