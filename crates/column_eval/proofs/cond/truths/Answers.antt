use Rattle.std.proofs.Common.{◌∙◌, ap, map, sym, subst}
use Rattle.std.specs.Prelude.{All}
use Rattle.table_rules.specs.Objects.{IsRow}
use Rattle.value_rules.specs.Formulas.{formula_of}
use Rattle.value_rules.specs.Truth.{truth_of}
use Rattle.value_rules.specs.Values.{row}
use Rattle.column_vectors.proofs.Flagged.{flags_truths}
use Rattle.column_vectors.proofs.Reading.{rows_there}
use Rattle.column_eval.proofs.cond.truths.Goals as goal

pub one-requires-clause-rows : goal.one-requires-clause-rows
one-requires-clause-rows c =
    subst (λ v. All IsRow v.objects) (sym c.new-rows.ensures)
    (rows_there c.args.block.now.objects c.args.picked.now c.len.ensures.rows c.requires.there)

pub returns : goal.returns
returns c =
    c.of.ensures
    ∙ (flags_truths c.new-rows.result.objects (formula_of c.args.c.now) c.in_ok-flags.flags c.in_ok-flags.ensures
    ∙ ap (λ v. map (λ o. truth_of c.args.c.now (row o)) v.objects) c.new-rows.ensures)
