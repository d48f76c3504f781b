use Rattle.std.proofs.Common.{rules, FitsSigned, w64, sym}
use Rattle.std.proofs.lemmas.Int.{to_z-of_z}
use Rattle.query_walks.proofs.arguments.dir_of.Goals as goal

pub returns : goal.returns
returns c =
    let dx_fits : FitsSigned w64 c.int_value.result = search rules in
    let dy_fits : FitsSigned w64 c.int_value-2.result = search rules in
    let made = simp (to_z-of_z w64 c.int_value.result dx_fits, to_z-of_z w64 c.int_value-2.result dy_fits) at c.dir_at.ensures in
    rw (sym c.int_value.ensures, sym c.int_value-2.ensures) made
