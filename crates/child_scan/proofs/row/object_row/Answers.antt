use Rattle.std.proofs.Common.{rules, w64, FitsSigned, ◌≡◌, ◌∙◌, true, sym, subst}
use Rattle.std.specs.List.{list_all}
use Rattle.std.proofs.lemmas.Int.{to_z-of_z}
use Rattle.std.proofs.lemmas.Option.{get_or_from_slice_get}
use Rattle.sky_row.specs.Columns.{no_row}
use Rattle.table_rules.specs.Objects.{is_further}
use Rattle.child_scan.specs.Wide.{AreWide, IsWide}
use Rattle.child_scan.proofs.Filling.{wide_further}
use Rattle.child_scan.proofs.row.object_row.Goals as goal

pub new-requires-clause-further : goal.new-requires-clause-further
new-requires-clause-further c =
    subst (λ l. list_all is_further l ≡ true) (sym c.as_slice.ensures) (wide_further c.get-row.result.further c.object_values-further.result c.object_values-further.ensures c.get-row.ensures.row.further)

pub returns : goal.returns
returns c =
    let fits : FitsSigned w64 c.id.result = search rules in
    subst (λ o. IsWide o c.new.result) (sym (get_or_from_slice_get c.args.rows.now.objects c.args.i c.get-row.result no_row c.get-row.ensures.value))
    (subst (λ w. IsWide c.get-row.result w) (sym c.new.ensures) (record {
      id = to_z-of_z w64 c.id.result fits ∙ c.id.ensures.value;
      at = c.pos.ensures.value;
      further = subst (λ l. AreWide c.get-row.result.further l) (sym c.as_slice.ensures) c.object_values-further.ensures;
    }))
