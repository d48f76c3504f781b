use Rattle.std.proofs.Common.{rules, arith, ap, length}
use Rattle.std.proofs.lemmas.List.{nil_from_length}
use Rattle.column_vectors.specs.PickedColumns.{first_col}
use Rattle.column_eval.proofs.SingleColumns.{column_is, column_none, column_parts}
use Rattle.column_eval.proofs.alone.column_of.Goals.{then-len-gt0-via-then-len-gt0, then-len-gt0-via-else-len-gt0+then-len-gt0-2, then-len-gt0-via-else-len-gt0+else-len-gt0-2+then-factor}
use Rattle.column_eval.proofs.alone.column_of.Goals as goal

pub returns-then-len-gt0-clause-none : goal.returns-then-len-gt0-clause-none
returns-then-len-gt0-clause-none c = λ col is.
    let parts = column_parts c.args.e.now col is in
    elim c.then-len-gt0.branch [
      | then-len-gt0-via-then-len-gt0 w ↦ omega (arith, w.if-len-gt0, c.len.ensures, ap length parts.alone)
      | then-len-gt0-via-else-len-gt0+then-len-gt0-2 w ↦ omega (arith, w.if-len-gt0-2, w.len-else-len-gt0.ensures, ap length parts.single)
      | then-len-gt0-via-else-len-gt0+else-len-gt0-2+then-factor w ↦ search (rules, parts.plus, w.if-factor)
    ]

pub returns-in-Col-clause-some : goal.returns-in-Col-clause-some
returns-in-Col-clause-some c =
    column_is c.args.e.now c.first_column.result c.in-Col.col (nil_from_length _ (omega (arith, c.len.ensures, c.if-len-gt0.false)))
    (nil_from_length _ (omega (arith, c.len-else-len-gt0.ensures, c.if-len-gt0-2.false))) c.if-factor.false c.in-Col.is c.first_column.ensures.some

pub returns-in-Col-clause-none : goal.returns-in-Col-clause-none
returns-in-Col-clause-none c = column_none c.args.e.now c.first_column.result c.in-Col.col c.in-Col.is c.first_column.ensures.none

pub returns-in_default : goal.returns-in_default
returns-in_default c = record {
  some = tt;
  none = λ col is. c.in_default.not-Col (first_col col) (column_parts c.args.e.now col is).atom;
}
