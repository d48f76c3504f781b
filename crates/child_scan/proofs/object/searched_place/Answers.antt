use Rattle.std.proofs.Common.{rules, w64, FitsSigned}
use Rattle.std.proofs.lemmas.Int.{to_z-of_z}
use Rattle.child_scan.proofs.Finding.{none_found}
use Rattle.child_scan.proofs.object.searched_place.Goals as goal

pub returns-in-Err-clause-none : goal.returns-in-Err-clause-none
returns-in-Err-clause-none c =
    let fits : FitsSigned w64 c.args.id = search rules in
    none_found c.args.ids.now c.args.id c.in-Err.field-0 c.requires.ascend (simp (to_z-of_z w64 c.args.id fits) at c.in-Err.ensures.position)
