use Rattle.std.proofs.Common.{◌≡◌, true, sym, subst}
use Rattle.std.specs.List.{list_all}
use Rattle.table_rules.specs.Objects.{is_further}
use Rattle.source_row.specs.SourceColumns.{source_at}
use Rattle.child_scan.proofs.Filling.{wide_further}
use Rattle.child_scan.proofs.row.source_row.Goals as goal

pub new-requires-clause-further : goal.new-requires-clause-further
new-requires-clause-further c =
    let s = source_at c.args.lists.now c.args.i in
    subst (λ l. list_all is_further l ≡ true) (sym c.as_slice.ensures) (wide_further s.further c.source_values-further.result c.source_values-further.ensures (c.requires.sources.are.rows c.args.i c.requires.there).further)
