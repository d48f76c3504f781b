use Rattle.std.proofs.Common.{subst, sym}
use Rattle.object_index.proofs.Ascending.{Ascend, ids_ascend}
use Rattle.object_index.proofs.index.Index.build.Goals as goal

pub first_rows-requires-clause-ascend : goal.first_rows-requires-clause-ascend
first_rows-requires-clause-ascend c = subst Ascend (sym c.ids.ensures) (ids_ascend c.args.rows.now.objects c.len-count.ensures.limits.ascend)
