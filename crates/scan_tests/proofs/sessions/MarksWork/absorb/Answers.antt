use Rattle.std.proofs.Common.{rules, ◌≡◌, ◌+◌, ◌∷◌, ◌++◌, length, length-append, ◌∙◌, ap, arith}
use Rattle.std.proofs.lemmas.List.Sorted.{length_permutation}
use Rattle.scan_tests.proofs.sessions.MarksWork.absorb.Goals as goal

pub returns-clause-joined : goal.returns-clause-joined
returns-clause-joined c = λ root q chunks chunk whole further one mine other.
    let both : c.extend_from_slice.new.self.items ≡ c.args.self.now ++ c.args.other = search rules in
    let long : length whole ≡ length (chunk ∷ chunks) = length_permutation (chunk ∷ chunks) whole one in
    let sum : length (c.args.self.now ++ c.args.other) ≡ length c.args.self.now + length c.args.other = length-append c.args.self.now c.args.other in
    let all : length (c.args.self.now ++ c.args.other) ≡ length whole = omega (arith, long, sum, mine, other) in
    ap length both ∙ all
