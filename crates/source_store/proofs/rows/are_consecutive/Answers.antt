use Rattle.std.proofs.Common.{◌≡◌, ◌∙◌, ◌+ℤ◌, of_z, pos, rules, to_z, w64, FitsSigned}
use Rattle.std.proofs.lemmas.Int.{to_z-of_z}
use Rattle.source_store.proofs.RowChunks.{consecutive_more}
use Rattle.source_store.proofs.rows.are_consecutive.Goals as goal

pub loop-row-preserved : goal.loop-row-preserved
loop-row-preserved c =
    let first = to_z w64 (of_z w64 c.args.first) in
    let fits : FitsSigned w64 c.id_at.result = search rules in
    let far : first +ℤ pos c.loop-row.row ≡ c.id_at.result = simp (to_z-of_z w64 c.id_at.result fits) at c.if-not-is_above.ensures in
    consecutive_more c.args.rows.now.objects c.loop-row.row first c.loop-row.invariant (far ∙ c.id_at.ensures)
