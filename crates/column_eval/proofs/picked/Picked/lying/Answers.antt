use Rattle.std.proofs.Common.{◌≤◌, ap, subst, vec_capacity}
use Rattle.column_vectors.proofs.Reading.{lying_rows, picked_count}
use Rattle.column_eval.proofs.picked.Picked.lying.Goals as goal

pub lying-requires-clause-room : goal.lying-requires-clause-room
lying-requires-clause-room c =
    subst (λ n. n ≤ vec_capacity c.args.found)
    (picked_count c.self.inside.block.now.objects c.args.self.now.objects c.self.inside.places.now (ap (λ v. v.objects) c.self.view_is)) c.requires.room

pub returns : goal.returns
returns c =
    lying_rows c.args.test.now c.self.inside.block.now.objects c.args.self.now.objects c.self.inside.places.now c.lying.result.items
    (ap (λ v. v.objects) c.self.view_is) c.lying.ensures
