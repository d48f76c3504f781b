use Rattle.std.proofs.Common.{take}
use Rattle.chunk_store.specs.Lists.{Pushed}
use Rattle.chunk_store.proofs.lists.Lists.push_all.Given as goal

abbrev pub invariant-loop-chunk : goal.invariant-loop-chunk
invariant-loop-chunk l = Pushed (take l.chunk-index l.chunks) l.place l.fn.self l.self
