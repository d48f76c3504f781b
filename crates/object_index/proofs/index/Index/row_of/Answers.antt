use Rattle.std.proofs.Common.{rules, w64, FitsSigned, subst, sym, IfSome, get_or}
use Rattle.std.proofs.lemmas.Int.{to_z-of_z}
use Rattle.sky_row.specs.Columns.{no_row}
use Rattle.object_index.specs.Indexes.{Indexed, IsRowOf}
use Rattle.object_index.proofs.Ascending.{Ascend, found, ids_ascend, if_some_then}
use Rattle.object_index.proofs.index.Index.row_of.Goals as goal

pub row_with-requires-clause-ascend : goal.row_with-requires-clause-ascend
row_with-requires-clause-ascend c = subst Ascend (sym c.ids.ensures) (ids_ascend c.self.inside.rows.now.objects c.len-count.ensures.limits.ascend)

pub returns-clause-found : goal.returns-clause-found
returns-clause-found c =
    let fits : FitsSigned w64 c.args.id = search rules in
    subst (λ (x : Indexed). IfSome c.row_with.result (λ row. IsRowOf x.rows c.args.id row (get_or x.rows row no_row))) c.self.view_is
    (if_some_then c.row_with.result (simp (to_z-of_z w64 c.args.id fits) at c.row_with.ensures.found) (λ row with.
    found c.self.inside.rows.now.objects c.ids.result.now c.args.id row c.ids.ensures c.len-count.ensures.limits.ascend with))
