use Rattle.source_store.proofs.Leading.{lists_there}
use Rattle.source_store.proofs.store.SourceStore.build.Goals as goal

pub chunk_columns-requires : goal.chunk_columns-requires
chunk_columns-requires c = lists_there c.args.index.now.plan c.args.index.now.rows c.args.sources.sources c.in_ok-lists.lists c.in_ok-lists.ensures
