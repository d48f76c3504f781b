use Rattle.std.proofs.Common.{◌≡◌, ◌∙◌, ap, sym, subst, length}
use Rattle.column_lists.specs.Columns.{AreRows, objects_of, rows_at}
use Rattle.column_lists.proofs.Filling.{filled_whole}
use Rattle.sky_row.proofs.Rowed.{objects_are}
use Rattle.column_lists.proofs.Rowed.{rows_at_places, width_at_places}
use Rattle.column_block.specs.Filters.{CoversAll}
use Rattle.column_block.proofs.Storing.{stored_same}
use Rattle.column_block.proofs.block.Block.finish.Goals as goal

pub invariant_of-result : goal.invariant_of-result
invariant_of-result c =
    let whole : c.fill.new.self ≡ rows_at c.args.table.now c.args.places.now = filled_whole _ _ _ c.in_ok-fill.ensures.ok in (
      subst AreRows (sym whole) (rows_at_places c.args.table.now c.args.places.now c.requires.rows c.requires.there),
      subst (CoversAll c.in_ok-filter.filter) c.ids.ensures c.in_ok-filter.ensures,
    )

pub returns : goal.returns
returns c =
    let whole : c.fill.new.self ≡ rows_at c.args.table.now c.args.places.now = filled_whole _ _ _ c.in_ok-fill.ensures.ok in
    stored_same _ _ _ _ (ap (λ p. length p.further) whole ∙ width_at_places c.args.table.now c.args.places.now)
    (ap objects_of whole ∙ objects_are c.args.table.now c.args.places.now c.requires.there)
