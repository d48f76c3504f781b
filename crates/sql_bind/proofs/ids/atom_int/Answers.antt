use Rattle.std.proofs.Common.{rules, FitsSigned, w64, refl}
use Rattle.std.proofs.lemmas.Int.{to_z-of_z}
use Rattle.sql_bind.proofs.LoneLaws.{int_alone, col_alone, bracket_alone}
use Rattle.sql_bind.proofs.ids.atom_int.Goals as goal

pub returns-in-Int : goal.returns-in-Int
returns-in-Int c =
    let fits : FitsSigned w64 c.get.result = search rules in
    rw (c.in-Int.is, int_alone c.in-Int.n, to_z-of_z w64 c.get.result fits, c.get.ensures.value) refl

pub returns-in-Col : goal.returns-in-Col
returns-in-Col c = rw (c.in-Col.is, col_alone _) refl

pub returns-in-Bracket : goal.returns-in-Bracket
returns-in-Bracket c = rw (c.in-Bracket.is, bracket_alone _) refl
