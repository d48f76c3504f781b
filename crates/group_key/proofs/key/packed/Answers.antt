use Rattle.std.proofs.Common.{rules, FitsSigned, w64}
use Rattle.std.proofs.lemmas.Int.{to_z-of_z}
use Rattle.group_key.proofs.Keys.{cell_is, four_are}
use Rattle.group_key.proofs.key.packed.Goals as goal

pub returns : goal.returns
returns c =
    let a : FitsSigned w64 c.number_of.result = search rules in
    let b : FitsSigned w64 c.number_of-2.result = search rules in
    let d : FitsSigned w64 c.number_of-3.result = search rules in
    let e : FitsSigned w64 c.number_of-4.result = search rules in
    four_are c.args.taken _ _ _ _ c.args.a c.args.b c.args.c c.args.d
    (cell_is c.args.a c.is_some.result _ c.number_of.result c.is_some.ensures (to_z-of_z w64 c.number_of.result a) c.number_of.ensures)
    (cell_is c.args.b c.is_some-2.result _ c.number_of-2.result c.is_some-2.ensures (to_z-of_z w64 c.number_of-2.result b) c.number_of-2.ensures)
    (cell_is c.args.c c.is_some-3.result _ c.number_of-3.result c.is_some-3.ensures (to_z-of_z w64 c.number_of-3.result d) c.number_of-3.ensures)
    (cell_is c.args.d c.is_some-4.result _ c.number_of-4.result c.is_some-4.ensures (to_z-of_z w64 c.number_of-4.result e) c.number_of-4.ensures)
