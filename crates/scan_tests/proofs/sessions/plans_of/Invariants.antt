use Rattle.std.proofs.Common.{◌≡◌, ◌<◌, [], All, IfSome, vec_len}
use Rattle.scan_tests.proofs.sessions.plans_of.Given as goal

abbrev pub invariant-loop-want : goal.invariant-loop-want
invariant-loop-want l =
    (vec_len l.plans ≡ l.want-index)
    × All (λ plan. IfSome plan (λ p. All (λ chunk. chunk < 8) p.chunks × (p.empty ≡ []))) l.plans.items
