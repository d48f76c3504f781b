use Rattle.std.proofs.Common.{ap, arith, length}
use Rattle.std.proofs.lemmas.List.{length-map}
use Rattle.chunk_filter.proofs.IdRows.{if_ok_then}
use Rattle.chunk_filter.proofs.IdTests.{ids_ascend, rows_held}
use Rattle.value_rules.specs.Formulas.{formula_of}
use Rattle.chunk_filter.proofs.id_test.held_rows.Goals as goal

pub rows_with-requires-clause-few : goal.rows_with-requires-clause-few
rows_with-requires-clause-few c =
    omega (arith, c.requires.few, ap length c.ids.ensures, length-map c.args.block.now.objects (λ o. o.id))

pub rows_with-requires-clause-ascend : goal.rows_with-requires-clause-ascend
rows_with-requires-clause-ascend c = ids_ascend c.args.block.now.objects c.ids.result.now c.ids.ensures c.requires.ascend

pub returns : goal.returns
returns c =
    if_ok_then c.rows_with.result c.rows_with.ensures (λ places found.
    rows_held (formula_of c.args.c.now) c.args.block.now.objects c.ids.result.now c.args.ids.now places.items c.ids.ensures c.requires.asks found)
