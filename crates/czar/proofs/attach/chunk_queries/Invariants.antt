use Rattle.std.proofs.Common.{◌≡◌, map, take}
use Rattle.partial_merge.specs.Roots.{shown}
use Rattle.session_rules.specs.Numbers.{numbered_from}
use Rattle.czar.specs.Attached.{chunk_query}
use Rattle.czar.proofs.attach.chunk_queries.Given as goal

abbrev pub invariant-loop-place : goal.invariant-loop-place
invariant-loop-place l = shown l.queries.items (λ x. x.now) ≡ numbered_from 1 (map chunk_query (take l.place l.fn.plans))
