use Rattle.value_rules.specs.Formulas.{Among}
use Rattle.value_rules.specs.Terms.{term_of}
use Rattle.column_vectors.proofs.Flagged.{flags_among, flags_negated}
use Rattle.column_eval.proofs.pred.among.Goals as goal

pub returns : goal.returns
returns c =
    flags_negated c.args.negated c.args.rows.now.objects (Among (term_of c.args.value.now) c.args.list.now) c.flags_of.result c.negated_if.result
    (flags_among c.args.list.now (term_of c.args.value.now) c.args.rows.now.objects c.in_ok-lane.lane c.found_in-found.result.items c.flags_of.result
    c.in_ok-lane.ensures c.found_in-found.ensures c.flags_of.ensures)
    c.negated_if.ensures
