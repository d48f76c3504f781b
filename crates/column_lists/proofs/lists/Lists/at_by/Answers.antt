use Rattle.std.proofs.Common.{pos}
use Rattle.column_lists.proofs.Gathering.{parts_same}
use Rattle.column_lists.proofs.Presence.{gathered_is}
use Rattle.column_lists.proofs.lists.Lists.at_by.Goals as goal

pub returns : goal.returns
returns g c =
    let all = c.in_ok-found.ensures in
    parts_same _ _ (gathered_is _ _ _ (pos 0) all.ids) (gathered_is _ _ _ (pos 0) all.xs) (gathered_is _ _ _ (pos 0) all.ys)
    (gathered_is _ _ _ (pos 0) all.zs) all.further
