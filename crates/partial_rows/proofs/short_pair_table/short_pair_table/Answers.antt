use Rattle.std.proofs.Common.{ap, length, List, subst, sym, ◌∙◌}
use Rattle.std.specs.List.{All}
use Rattle.answer_rules.specs.declared.value.Value.{Value}
use Rattle.answer_table.specs.Tables.{IsShort, table_of}
use Rattle.partial_rows.proofs.ShortPairs.{keys_long, keys_short, keys_table}
use Rattle.partial_rows.proofs.short_pair_table.short_pair_table.Goals as goal

pub of-requires-clause-long : goal.of-requires-clause-long
of-requires-clause-long c = ap length c.in_ok-values.ensures ∙ keys_long c.args.items.now c.args.keys.now

pub of-requires-clause-short : goal.of-requires-clause-short
of-requires-clause-short c = subst (λ (vs : List Value). All IsShort vs) (sym c.in_ok-values.ensures) (keys_short c.args.items.now c.args.keys.now)

pub returns : goal.returns
returns c =
    c.of.ensures ∙ ap (table_of (length c.args.keys.now) (length c.args.items.now)) c.in_ok-values.ensures
    ∙ keys_table c.args.items.now c.args.keys.now
