use Rattle.std.proofs.Common.{rules, FitsSigned, w64, sym}
use Rattle.std.proofs.lemmas.Int.{to_z-of_z}
use Rattle.query_walks.proofs.arguments.pos_of.Goals as goal

pub returns : goal.returns
returns c =
    let x_fits : FitsSigned w64 c.int_value.result = search rules in
    let y_fits : FitsSigned w64 c.int_value-2.result = search rules in
    let z_fits : FitsSigned w64 c.int_value-3.result = search rules in
    let made = simp (to_z-of_z w64 c.int_value.result x_fits, to_z-of_z w64 c.int_value-2.result y_fits, to_z-of_z w64 c.int_value-3.result z_fits) at c.pos_at.ensures in
    rw (sym c.int_value.ensures, sym c.int_value-2.ensures, sym c.int_value-3.ensures) made
