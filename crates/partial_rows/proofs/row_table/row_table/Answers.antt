use Rattle.std.proofs.Common.{ap, length, List, subst, sym, ◌∙◌}
use Rattle.std.specs.List.{All}
use Rattle.answer_rules.specs.declared.value.Value.{Value}
use Rattle.answer_table.specs.Tables.{IsShort, table_of}
use Rattle.partial_rows.proofs.Tabling.{rows_long, rows_short, rows_table}
use Rattle.partial_rows.proofs.row_table.row_table.Goals as goal

pub of-requires-clause-long : goal.of-requires-clause-long
of-requires-clause-long c = ap length c.in_ok-values.ensures ∙ rows_long c.args.cells.now c.args.items.now c.args.rows.now

pub of-requires-clause-short : goal.of-requires-clause-short
of-requires-clause-short c = subst (λ (vs : List Value). All IsShort vs) (sym c.in_ok-values.ensures) (rows_short c.args.cells.now c.args.items.now c.args.rows.now)

pub returns : goal.returns
returns c =
    c.of.ensures ∙ ap (table_of (length c.args.rows.now) (length c.args.items.now)) c.in_ok-values.ensures
    ∙ rows_table c.args.cells.now c.args.items.now c.args.rows.now
