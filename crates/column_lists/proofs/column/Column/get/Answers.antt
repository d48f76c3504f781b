use Rattle.std.proofs.Common.{◌≡◌, ◌<◌, ◌∙◌, ap, sym, arith, None, get_or, length}
use Rattle.column_lists.specs.Columns.{cell_at}
use Rattle.column_lists.proofs.Presence.{cell_is, count}
use Rattle.column_lists.proofs.column.Column.get.Goals as goal

pub value_at-requires-clause-there : goal.value_at-requires-clause-there
value_at-requires-clause-there c =
    omega (arith, c.requires, ap length c.as_slice.ensures.value, ap length c.self.view_is, count c.self.inside.values.items c.self.inside.present.items)

pub returns : goal.returns
returns c =
    let low : c.args.i < length c.self.inside.values.items = omega (arith, c.requires, ap length c.self.view_is, count c.self.inside.values.items c.self.inside.present.items) in
    c.value_at.ensures
    ∙ (ap (λ v. cell_at v c.as_slice-2.result.now c.args.i) c.as_slice.ensures.value
    ∙ (ap (λ p. cell_at c.self.inside.values.items p c.args.i) c.as_slice-2.ensures.value
    ∙ (sym (cell_is _ _ c.args.i None low) ∙ ap (λ l. get_or l c.args.i None) c.self.view_is)))
