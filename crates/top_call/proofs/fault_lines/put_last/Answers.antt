use Rattle.std.proofs.Common.{FitsSigned, rules}
use Rattle.std.specs.Int.{w128}
use Rattle.std.specs.Fmt.{signed_decimal}
use Rattle.std.proofs.lemmas.Int.{to_z-of_z}
use Rattle.sky_io.proofs.Writes.{wrote_two}
use Rattle.top_call.proofs.fault_lines.put_last.Goals as goal

pub returns-in-Done : goal.returns-in-Done
returns-in-Done g c =
    let fits : FitsSigned w128 c.args.value.now = search rules in
    wrote_two _ _ _ (signed_decimal c.args.value.now) _ _ (simp to_z-of_z at c.in-Done.ensures) c.put.ensures
