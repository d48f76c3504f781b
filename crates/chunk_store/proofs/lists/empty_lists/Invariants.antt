use Rattle.std.proofs.Common.{◌≡◌, replicate, [], map}
use Rattle.chunk_store.proofs.lists.empty_lists.Given as goal

abbrev pub invariant-loop-chunk : goal.invariant-loop-chunk
invariant-loop-chunk l = map (λ v. v.items) l.lists.items ≡ replicate l.chunk []
