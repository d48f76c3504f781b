use Rattle.std.proofs.Common.{IfSome, None, ◌<◌, ◌+◌, List, ℕ, All, arith, subst, sym}
use Rattle.std.specs.List.{last_or}
use Rattle.std.proofs.lemmas.List.Elements.{All-push}
use Rattle.scan_rules.proofs.Lists.{last_push}
use Rattle.scan_tests.proofs.classes.chunks_of.Goals as goal

pub loop-chunk-preserved : goal.loop-chunk-preserved
loop-chunk-preserved c =
    let set : List ℕ = c.loop-chunk.set in
    let chunk : ℕ = c.loop-chunk.chunk in
    let low = c.loop-chunk-test.true in
    let most = c.min-chunk-end.ensures in
    subst (λ (l : List ℕ). All (λ k. k < 34) l × IfSome (last_or None l) (λ last. last < chunk + 1)) (sym c.in_ok-push.ensures.appended) (
      All-push (λ k. k < 34) set chunk c.loop-chunk.invariant.0 (omega (arith, low, most)),
      subst (λ o. IfSome o (λ last. last < chunk + 1)) (sym (last_push None set chunk)) (omega arith),
    )
