use Rattle.std.proofs.Common.{◌≡◌, ◌∙◌, List, Some, arith, ap, get_or, map, subst, sym}
use Rattle.std.proofs.lemmas.List.{length-map}
use Rattle.sky_row.specs.Columns.{no_row, objects_at}
use Rattle.sql_bound.specs.declared.expr.BoundCol.{BoundCol}
use Rattle.value_rules.specs.Values.{cell_of, row}
use Rattle.answer_rules.specs.declared.rewritten.ChunkItem.{ChunkItem}
use Rattle.answer_rules.specs.Parts.{partials_of}
use Rattle.answer_rules.specs.Pieces.{OfGroups}
use Rattle.chunk_group_scan.specs.Ungrouped.{AreCounted}
use Rattle.chunk_group_scan.proofs.Ungrouping.{rows_grouped, rows_may}
use Rattle.chunk_group_scan.proofs.ungrouped.of_column.Goals as goal

pub piece_of_rows-requires-clause-alike : goal.piece_of_rows-requires-clause-alike
piece_of_rows-requires-clause-alike c =
    let objects = objects_at c.args.block.now.objects c.args.places.now in
    let counted = rw c.in-Some.is at c.in_ok-counted.ensures in
    let h : AreCounted c.args.query.now.items c.in-Some.counted.items = subst (λ (l : List ChunkItem). AreCounted l c.in-Some.counted.items) c.as_slice.ensures counted in
    let e : map Some c.in-Some-2.values.items ≡ map (λ o. cell_of (row o) c.args.key.now) objects = rw c.in-Some-2.is at c.in_ok-values.ensures in
    rows_may c.args.key.now c.args.query.now.items c.in-Some.counted.items c.in-Some-2.values.items objects h e
    (omega (arith, c.requires.few, length-map c.args.places.now (λ place. get_or c.args.block.now.objects place no_row)))

pub returns : goal.returns
returns c =
    let objects = objects_at c.args.block.now.objects c.args.places.now in
    let counted = rw c.in-Some.is at c.in_ok-counted.ensures in
    let h : AreCounted c.args.query.now.items c.in-Some.counted.items = subst (λ (l : List ChunkItem). AreCounted l c.in-Some.counted.items) c.as_slice.ensures counted in
    let e : map Some c.in-Some-2.values.items ≡ map (λ o. cell_of (row o) c.args.key.now) objects = rw c.in-Some-2.is at c.in_ok-values.ensures in
    c.in_ok-piece.ensures
    ∙ (ap OfGroups (rows_grouped c.args.key.now c.args.query.now.items c.in-Some.counted.items c.in-Some-2.values.items objects h e)
    ∙ ap (λ (keys : List BoundCol). OfGroups (partials_of keys c.args.query.now.items (map row objects))) (sym c.requires.one))
