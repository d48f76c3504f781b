use Rattle.std.proofs.Common.{◌≡◌, length, replicate, rules, true}
use Rattle.column_vectors.proofs.Flagged.{flags_area}
use Rattle.column_eval.proofs.area.area.Goals as goal

pub returns : goal.returns
returns c =
    let everywhere : c.repeated-all.result.items ≡ replicate (length c.args.rows.now.objects) true = search rules in
    flags_area c.args.test.now c.args.rows.now.objects c.repeated-all.result.items c.lying-held.result.items c.flags_of.result everywhere
    c.lying-held.ensures c.flags_of.ensures
