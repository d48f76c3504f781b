use Rattle.value_rules.specs.Terms.{term_of}
use Rattle.column_vectors.proofs.Flagged.{flags_compared}
use Rattle.column_eval.proofs.pred.compare.Goals as goal

pub returns : goal.returns
returns c =
    flags_compared c.args.op (term_of c.args.left.now) (term_of c.args.right.now) c.args.rows.now.objects c.in_ok-left.left c.in_ok-right.right
    c.in_ok-flags.flags c.in_ok-left.ensures c.in_ok-right.ensures c.in_ok-flags.ensures
