use Rattle.chunk_store.proofs.Appending.{rows_both}
use Rattle.chunk_store.proofs.fill.both_lists.Goals as goal

pub returns : goal.returns
returns c =
    rows_both c.args.plan.now c.args.rows.now.objects c.args.from c.args.at c.args.more _ _ _ _ _ _ c.requires.first c.requires.second c.in_ok-append.ensures c.in_ok-append-2.ensures
