use Rattle.std.proofs.Common.{rules, FitsSigned, w64}
use Rattle.std.proofs.lemmas.Int.{to_z-of_z}
use Rattle.chunk_filter.proofs.IdRows.{found_there, missing}
use Rattle.chunk_filter.proofs.id_rows.bisected.Goals as goal

pub returns-in-Ok-clause-found : goal.returns-in-Ok-clause-found
returns-in-Ok-clause-found c =
    let fits : FitsSigned w64 c.args.id = search rules in
    (search rules, found_there c.args.ids.now c.args.id c.in-Ok.row (simp (to_z-of_z w64 c.args.id fits) at c.in-Ok.ensures.ok))

pub returns-in-Err-clause-none : goal.returns-in-Err-clause-none
returns-in-Err-clause-none c =
    let fits : FitsSigned w64 c.args.id = search rules in
    missing c.args.ids.now c.args.id c.in-Err.field-0 c.requires (simp (to_z-of_z w64 c.args.id fits) at c.in-Err.ensures.position)
