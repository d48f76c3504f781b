use Rattle.std.proofs.Common.{◌+◌, ◌<◌, ap, subst, sym}
use Rattle.column_vectors.proofs.Reading.{read_rows}
use Rattle.column_eval.proofs.picked.Picked.read.Goals as goal

pub read-requires-clause-col : goal.read-requires-clause-col
read-requires-clause-col c = subst (λ n. c.args.col < 4 + n) (sym (ap (λ v. v.width) c.self.view_is)) c.requires

pub returns : goal.returns
returns c =
    read_rows c.read.result c.self.inside.block.now.objects c.args.self.now.objects c.self.inside.places.now c.args.col
    (ap (λ v. v.objects) c.self.view_is) c.self.invariant c.read.ensures
