use Rattle.source_store.proofs.ChunkColumns.{places_there}
use Rattle.source_store.proofs.columns.columns_of.Goals as goal

pub at-requires-clause-there : goal.at-requires-clause-there
at-requires-clause-there c = places_there c.args.sources.now c.lists.result.now c.args.places.now c.lists.ensures.sources c.requires
