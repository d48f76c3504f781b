use Rattle.std.proofs.Common.{◌∙◌, sym}
use Rattle.query_walks.specs.Firsts.{factor_columns, signed_columns}
use Rattle.query_walks.proofs.Firsts.{first_here, first_later, first_of_none, first_at_end, next_part, expr_parts}
use Rattle.query_walks.proofs.Firsts.{prod_parts, signed_parts, factor_parts, int_columns, col_columns, bracket_columns}
use Rattle.query_walks.proofs.column_search.+first.Goals as goal

pub first_column-returns-in-Some : goal.first_column-returns-in-Some
first_column-returns-in-Some g t c = rw (expr_parts c.args.e.now) (first_here _ _ _ _ _ c.in-Some.ensures)

pub first_column-returns-in-None : goal.first_column-returns-in-None
first_column-returns-in-None g t c =
    rw (expr_parts c.args.e.now) ((rw c.as_slice.ensures at c.first_in_signeds.ensures) ∙ sym
    (first_later _ _ _ _ c.in-None.ensures))

pub first_in_signeds-returns-in-Some : goal.first_in_signeds-returns-in-Some
first_in_signeds-returns-in-Some g t c =
    let next = next_part signed_columns c.args.rest.now c.loop-signed.signed-index c.signed-item.result
    c.loop-signed-test.true c.signed-item.is in
    rw (c.loop-signed.invariant.ahead, next) (first_here _ _ _ _ _ c.in-Some.ensures)

pub first_in_signeds-loop-signed-preserved : goal.first_in_signeds-loop-signed-preserved
first_in_signeds-loop-signed-preserved g t c =
    let next = next_part signed_columns c.args.rest.now c.loop-signed.signed-index c.signed-item.result
    c.loop-signed-test.true c.signed-item.is in
    record { ahead = (rw next at c.loop-signed.invariant.ahead) ∙ first_later _ _ _ _ c.in-None.ensures }

pub first_in_signed-returns : goal.first_in_signed-returns
first_in_signed-returns g t c = rw (signed_parts c.args.signed.now) c.first_in_prod.ensures

pub first_in_prod-returns-in-Some : goal.first_in_prod-returns-in-Some
first_in_prod-returns-in-Some g t c = rw (prod_parts c.args.prod.now) (first_here _ _ _ _ _ c.in-Some.ensures)

pub first_in_prod-returns-in-None : goal.first_in_prod-returns-in-None
first_in_prod-returns-in-None g t c =
    rw (prod_parts c.args.prod.now) ((rw c.as_slice.ensures at c.first_in_factors.ensures) ∙ sym
    (first_later _ _ _ _ c.in-None.ensures))

pub first_in_factors-returns-in-Some : goal.first_in_factors-returns-in-Some
first_in_factors-returns-in-Some g t c =
    let next = next_part factor_columns c.args.rest.now c.loop-factor.factor-index c.factor-item.result
    c.loop-factor-test.true c.factor-item.is in
    rw (c.loop-factor.invariant.ahead, next) (first_here _ _ _ _ _ c.in-Some.ensures)

pub first_in_factors-loop-factor-preserved : goal.first_in_factors-loop-factor-preserved
first_in_factors-loop-factor-preserved g t c =
    let next = next_part factor_columns c.args.rest.now c.loop-factor.factor-index c.factor-item.result
    c.loop-factor-test.true c.factor-item.is in
    record { ahead = (rw next at c.loop-factor.invariant.ahead) ∙ first_later _ _ _ _ c.in-None.ensures }

pub first_in_factor-returns : goal.first_in_factor-returns
first_in_factor-returns g t c = rw (factor_parts c.args.factor.now) c.first_in_atom.ensures

pub first_in_atom-returns-in-Int : goal.first_in_atom-returns-in-Int
first_in_atom-returns-in-Int g t c = rw (c.in-Int.is, int_columns _) (first_of_none _ _)

pub first_in_atom-returns-in-Col : goal.first_in_atom-returns-in-Col
first_in_atom-returns-in-Col g t c = rw (c.in-Col.is, col_columns c.in-Col.col) c.place_if.ensures

pub first_in_atom-returns-in-Bracket : goal.first_in_atom-returns-in-Bracket
first_in_atom-returns-in-Bracket g t c =
    rw (c.in-Bracket.is, bracket_columns c.in-Bracket.e) (rw c.get.ensures at c.first_column.ensures)

pub first_in_factors-returns : goal.first_in_factors-returns
first_in_factors-returns g t c =
    first_at_end _ _ factor_columns c.args.rest.now c.loop-factor.factor-index c.loop-factor-test.false
    c.loop-factor.invariant.ahead

pub first_in_signeds-returns : goal.first_in_signeds-returns
first_in_signeds-returns g t c =
    first_at_end _ _ signed_columns c.args.rest.now c.loop-signed.signed-index c.loop-signed-test.false
    c.loop-signed.invariant.ahead
