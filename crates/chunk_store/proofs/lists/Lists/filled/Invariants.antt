use Rattle.std.proofs.Common.{◌≡◌, filter, get_or, []}
use Rattle.std.specs.List.{range_with_len}
use Rattle.chunk_store.specs.Lists.{has_some}
use Rattle.chunk_store.proofs.lists.Lists.filled.Given as goal

abbrev pub invariant-loop-chunk : goal.invariant-loop-chunk
invariant-loop-chunk l = l.filled.items ≡ filter (λ c. has_some (get_or l.self c [])) (range_with_len 0 l.chunk)
