use Rattle.std.proofs.Common.{codes, []}
use Rattle.sky_io.proofs.Writes.{under_fail, under_more, wrote_one, wrote_two}
use Rattle.sql_rules.proofs.Listed.{next_part}
use Rattle.explain_text.specs.Explaining.{key_factor_text, key_signed_text}
use Rattle.explain_text.proofs.KeyTexts.{bracket_atom, col_atom, expr_parts, factor_parts, int_atom, prod_parts, signed_parts}
use Rattle.explain_text.proofs.key_exprs.+put.Goals as goal

pub put_key_expr-returns-in-Failed : goal.put_key_expr-returns-in-Failed
put_key_expr-returns-in-Failed g t c = rw (expr_parts c.args.keys.now c.args.e.now) (wrote_one _ _ _ _ c.in-Failed.ensures)

pub put_key_expr-returns-in-Done : goal.put_key_expr-returns-in-Done
put_key_expr-returns-in-Done g t c = rw (expr_parts c.args.keys.now c.args.e.now) (wrote_two _ _ _ _ _ _ c.in-Done.ensures (rw c.as_slice.ensures at c.put_signeds.ensures))

pub put_signeds-returns-in-Failed : goal.put_signeds-returns-in-Failed
put_signeds-returns-in-Failed g t c =
    let next = next_part [] (key_signed_text c.args.keys.now) c.args.rest.now c.loop-signed.signed-index c.signed-item.result c.loop-signed-test.true c.signed-item.is in
    under_fail _ _ _ _ _ _ (rw next at c.loop-signed.invariant.under) c.in-Failed.ensures

pub put_signeds-loop-signed-preserved : goal.put_signeds-loop-signed-preserved
put_signeds-loop-signed-preserved g t c =
    let next = next_part [] (key_signed_text c.args.keys.now) c.args.rest.now c.loop-signed.signed-index c.signed-item.result c.loop-signed-test.true c.signed-item.is in
    record { under = under_more _ _ _ _ _ _ (rw next at c.loop-signed.invariant.under) c.in-Done.ensures }

pub put_signed-returns-in-Failed : goal.put_signed-returns-in-Failed
put_signed-returns-in-Failed g t c = rw (signed_parts c.args.keys.now c.args.signed.now) (wrote_one _ _ _ _ c.in-Failed.ensures)

pub put_signed-returns-in-Done : goal.put_signed-returns-in-Done
put_signed-returns-in-Done g t c = rw (signed_parts c.args.keys.now c.args.signed.now) (wrote_two _ _ _ _ _ _ c.in-Done.ensures c.put_prod.ensures)

pub put_prod-returns-in-Failed : goal.put_prod-returns-in-Failed
put_prod-returns-in-Failed g t c = rw (prod_parts c.args.keys.now c.args.prod.now) (wrote_one _ _ _ _ c.in-Failed.ensures)

pub put_prod-returns-in-Done : goal.put_prod-returns-in-Done
put_prod-returns-in-Done g t c = rw (prod_parts c.args.keys.now c.args.prod.now) (wrote_two _ _ _ _ _ _ c.in-Done.ensures (rw c.as_slice.ensures at c.put_factors.ensures))

pub put_factors-returns-in-Failed : goal.put_factors-returns-in-Failed
put_factors-returns-in-Failed g t c =
    let next = next_part (codes "*") (key_factor_text c.args.keys.now) c.args.rest.now c.loop-factor.factor-index c.factor-item.result c.loop-factor-test.true c.factor-item.is in
    under_fail _ _ _ _ _ _ (rw next at c.loop-factor.invariant.under) c.in-Failed.ensures

pub put_factors-loop-factor-preserved : goal.put_factors-loop-factor-preserved
put_factors-loop-factor-preserved g t c =
    let next = next_part (codes "*") (key_factor_text c.args.keys.now) c.args.rest.now c.loop-factor.factor-index c.factor-item.result c.loop-factor-test.true c.factor-item.is in
    record { under = under_more _ _ _ _ _ _ (rw next at c.loop-factor.invariant.under) c.in-Done.ensures }

pub put_times-returns-in-Done : goal.put_times-returns-in-Done
put_times-returns-in-Done g t c = wrote_two _ _ _ (codes "*") _ _ c.in-Done.ensures c.put_factor.ensures

pub put_factor-returns-in-Failed : goal.put_factor-returns-in-Failed
put_factor-returns-in-Failed g t c = rw (factor_parts c.args.keys.now c.args.factor.now) (wrote_one _ _ _ _ c.in-Failed.ensures)

pub put_factor-returns-in-Done : goal.put_factor-returns-in-Done
put_factor-returns-in-Done g t c = rw (factor_parts c.args.keys.now c.args.factor.now) (wrote_two _ _ _ _ _ _ c.in-Done.ensures c.put_atom.ensures)

pub put_atom-returns-in-Int : goal.put_atom-returns-in-Int
put_atom-returns-in-Int g t c = rw (c.in-Int.is, int_atom c.args.keys.now c.in-Int.n) c.put_size.ensures

pub put_atom-returns-in-Col : goal.put_atom-returns-in-Col
put_atom-returns-in-Col g t c = rw (c.in-Col.is, col_atom c.args.keys.now c.in-Col.col) c.put_key_column.ensures

pub put_atom-returns-in-Bracket : goal.put_atom-returns-in-Bracket
put_atom-returns-in-Bracket g t c = rw (c.in-Bracket.is, bracket_atom c.args.keys.now c.in-Bracket.e) (rw c.get.ensures at c.put_bracket.ensures)

pub put_bracket-returns-in-Done : goal.put_bracket-returns-in-Done
put_bracket-returns-in-Done g t c = wrote_two _ _ _ (codes "(") _ _ c.in-Done.ensures c.put_closed.ensures

pub put_closed-returns-in-Done : goal.put_closed-returns-in-Done
put_closed-returns-in-Done g t c = wrote_two _ _ _ _ (codes ")") _ c.in-Done.ensures c.put.ensures
