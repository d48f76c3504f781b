use Rattle.std.proofs.Common.{◌<◌, All, IfSome, None}
use Rattle.std.specs.List.{last_or}
use Rattle.scan_tests.proofs.classes.chunks_of.Given as goal

abbrev pub invariant-loop-chunk : goal.invariant-loop-chunk
invariant-loop-chunk l = All (λ chunk. chunk < 34) l.set × IfSome (last_or None l.set) (λ last. last < l.chunk)
