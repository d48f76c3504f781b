use Rattle.std.proofs.Common.{◌≡◌, ◌∷◌, length, arith}
use Rattle.std.proofs.lemmas.List.Sorted.{length_permutation}
use Rattle.scan_tests.proofs.boards.CountWork.absorb.Goals as goal

pub returns-clause-joined : goal.returns-clause-joined
returns-clause-joined c = λ root q chunks chunk whole further one mine other.
    let long : length whole ≡ length (chunk ∷ chunks) = length_permutation (chunk ∷ chunks) whole one in
    let sum = c.in-Some.ensures in
    omega (arith, long, mine, other, sum)
