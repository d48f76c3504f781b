use Rattle.std.proofs.Common.{rules, FitsSigned, w64}
use Rattle.std.proofs.lemmas.Int.{to_z-of_z}
use Rattle.chunk_filter.proofs.IdRows.{none_of}
use Rattle.chunk_filter.proofs.id_rows.row_of.Goals as goal

pub returns-else-may_have_id-clause-none : goal.returns-else-may_have_id-clause-none
returns-else-may_have_id-clause-none c =
    let fits : FitsSigned w64 c.args.id = search rules in
    none_of c.args.block.now.objects c.args.ids.now c.args.id c.requires.ids
    ((simp (to_z-of_z w64 c.args.id fits) at c.may_have_id.ensures) c.if-may_have_id.false)
