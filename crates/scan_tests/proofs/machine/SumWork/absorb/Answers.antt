use Rattle.std.proofs.Common.{◌+◌, ◌*◌, ◌∷◌, arith}
use Rattle.std.proofs.lemmas.List.Sorted.{sum_by-IsPermutation}
use Rattle.std.proofs.lemmas.List.Sums.{sum_by-cons}
use Rattle.scan_tests.proofs.machine.SumWork.absorb.Goals as goal

pub returns-clause-joined : goal.returns-clause-joined
returns-clause-joined c = λ root q chunks chunk whole further one mine other.
    let moved = sum_by-IsPermutation (λ k. 1000 * q + k) (chunk ∷ chunks) whole one in
    let more = sum_by-cons (λ k. 1000 * q + k) chunk chunks in
    let sum = c.in-Some.ensures in
    omega (arith, moved, more, mine, other, sum)
