use Rattle.std.proofs.Common.{◌≡◌, length, replicate, rules, true}
use Rattle.value_rules.specs.Terms.{term_of}
use Rattle.column_vectors.proofs.Flagged.{flags_null, flags_present}
use Rattle.column_eval.proofs.pred.is_null.Goals as goal

pub returns : goal.returns
returns c =
    let everywhere : c.repeated-all.result.items ≡ replicate (length c.args.rows.now.objects) true = search rules in
    flags_null c.args.negated (term_of c.args.value.now) c.args.rows.now.objects c.flags_of.result c.negated_if.result
    (flags_present (term_of c.args.value.now) c.args.rows.now.objects c.in_ok-lane.lane c.repeated-all.result.items c.flags_of.result
    c.in_ok-lane.ensures everywhere c.flags_of.ensures)
    c.negated_if.ensures
