use Rattle.std.proofs.Common.{rules, w64, FitsSigned, refl}
use Rattle.std.proofs.lemmas.Int.{to_z-of_z}
use Rattle.object_index.proofs.Sparse.{not_among}
use Rattle.object_index.proofs.granules.row_among.Goals as goal

pub returns-in-Err-clause-none : goal.returns-in-Err-clause-none
returns-in-Err-clause-none c =
    let fits : FitsSigned w64 c.args.id = search rules in
    not_among c.args.ids.now _ c.args.id c.args.first c.min-end.result c.in-Err.field-0 c.requires.ascend c.requires.granule refl (search rules) (search rules) (search rules)
    (simp (to_z-of_z w64 c.args.id fits) at c.in-Err.ensures.position)
