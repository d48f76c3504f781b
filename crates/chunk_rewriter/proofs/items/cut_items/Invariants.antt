use Rattle.std.proofs.Common.{◌≡◌, ◌++◌, drop, length}
use Rattle.std.specs.List.{flat_map}
use Rattle.answer_rules.specs.ChunkQueries.{chunk_items_of}
use Rattle.answer_rules.specs.Rewriting.{merged_from}
use Rattle.chunk_rewriter.proofs.items.cut_items.Given as goal

abbrev pub invariant-loop-item : goal.invariant-loop-item
invariant-loop-item l =
    (flat_map (chunk_items_of l.shape) l.items ≡ l.chunk ++ flat_map (chunk_items_of l.shape) (drop l.item-index l.items))
    × (merged_from l.shape 0 l.items ≡ l.merge ++ merged_from l.shape (length l.chunk) (drop l.item-index l.items))
