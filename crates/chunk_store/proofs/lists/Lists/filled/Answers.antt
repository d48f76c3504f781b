use Rattle.std.proofs.Common.{ℕ, Bool, List, ◌++◌, ◌∙◌, [], ap, sym, filter, get_or}
use Rattle.std.specs.List.{range_with_len}
use Rattle.chunk_store.specs.Lists.{has_some, kept_if}
use Rattle.chunk_store.proofs.Ranges.{filter_more}
use Rattle.chunk_store.proofs.lists.Lists.filled.Goals as goal

pub loop-chunk-preserved : goal.loop-chunk-preserved
loop-chunk-preserved c =
    let chunk = c.loop-chunk.chunk in
    let before = filter (λ (d : ℕ). has_some (get_or c.args.self.now d [])) (range_with_len 0 chunk) in
    c.in_ok-push_if.ensures
    ∙ (ap (λ (l : List ℕ). l ++ kept_if c.has_some.result chunk) c.loop-chunk.invariant
    ∙ (ap (λ (b : Bool). before ++ kept_if b chunk) (c.has_some.ensures ∙ ap has_some c.of.ensures)
    ∙ sym (filter_more (λ (d : ℕ). has_some (get_or c.args.self.now d [])) chunk)))
