use Rattle.std.proofs.Common.{sym, ap, ◌∙◌}
use Rattle.sql_tree.specs.declared.expr.Atom.TheVariants as atom
use Rattle.sql_tree.proofs.Parts.{int_atoms, col_atoms, bracket_atoms}
use Rattle.sql_tree.proofs.same_expr.+same.Goals as goal

pub same_atom-returns-in-Int-Int : goal.same_atom-returns-in-Int-Int
same_atom-returns-in-Int-Int t c = int_atoms c.args.a.now c.args.b.now c.in-Int-Int.a c.in-Int-Int.b c.same_int.result c.in-Int-Int.is-0 c.in-Int-Int.is-1 c.same_int.ensures

pub same_atom-returns-in-Col-Col : goal.same_atom-returns-in-Col-Col
same_atom-returns-in-Col-Col t c = col_atoms c.args.a.now c.args.b.now c.in-Col-Col.a c.in-Col-Col.b c.same_col.result c.in-Col-Col.is-0 c.in-Col-Col.is-1 c.same_col.ensures

pub same_atom-returns-in-Bracket-Bracket : goal.same_atom-returns-in-Bracket-Bracket
same_atom-returns-in-Bracket-Bracket t c = bracket_atoms c.args.a.now c.args.b.now c.get.result.now c.get-in-Bracket-Bracket.result.now c.same_expr.result
    (c.in-Bracket-Bracket.is-0 ∙ ap atom.Bracket (sym c.get.ensures)) (c.in-Bracket-Bracket.is-1 ∙ ap atom.Bracket (sym c.get-in-Bracket-Bracket.ensures)) c.same_expr.ensures
