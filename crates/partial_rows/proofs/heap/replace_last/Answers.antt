use Rattle.std.proofs.Common.{◌≡◌, [], ◌∷◌, ◌++◌, Some, false, heap_items, heap_len, is_lt, subst, sym, arith, rules}
use Rattle.std.proofs.lemmas.Option.{MatchOption-at_some}
use Rattle.std.specs.BinaryHeap.PeekMut.{peek_mut_top, peek_mut_rest}
use Rattle.answer_rules.specs.Keeps.{KeepsFirst}
use Rattle.partial_rows.specs.Rows.{rank_order}
use Rattle.partial_rows.proofs.Offering.{bounds_rest, replaced}
use Rattle.partial_rows.proofs.heap.replace_last.Goals as goal

pub returns-clause-kept : goal.returns-clause-kept
returns-clause-kept c =
    let p = c.unwrap-last.result in
    let last = peek_mut_top p in
    let old = heap_items c.args.heap.now in
    let parts = MatchOption-at_some _ _ p c.unwrap-last.ensures c.peek_mut.ensures.permutation in
    let greatest = MatchOption-at_some _ _ p c.unwrap-last.ensures c.peek_mut.ensures.greatest c.requires.order in
    let top = MatchOption-at_some _ _ p c.unwrap-last.ensures c.peek_mut.ensures.top in
    let kept : KeepsFirst rank_order (Some (heap_len c.args.heap.now)) (old ++ c.args.row ∷ []) (heap_items c.drop-last.new.self.0) =
    replaced _ old (peek_mut_rest p) (heap_items c.drop-last.new.self.0) last c.args.row parts (c.drop-last.ensures.permutation (search rules)) (bounds_rest old (peek_mut_rest p) last parts greatest)
    (subst (λ x. is_lt (rank_order x c.args.row) ≡ false) (sym top) (c.requires.before last)) (omega arith)
    in
    search rules
