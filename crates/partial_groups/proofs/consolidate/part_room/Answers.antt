use Rattle.std.proofs.Common.{◌≤◌, subst, vec_capacity}
use Rattle.std.specs.Prelude.{IfOk}
use Rattle.partial_groups.proofs.consolidate.part_room.Goals as goal

pub returns-clause-room : goal.returns-clause-room
returns-clause-room c = subst (λ n. IfOk c.room.result (λ fresh. n ≤ vec_capacity fresh)) c.in_ok-count.ensures c.room.ensures.room
