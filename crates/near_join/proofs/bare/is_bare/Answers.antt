use Rattle.std.proofs.Common.{◌≡◌, List, [], ◌∷◌, Some, map, subst}
use Rattle.value_rules.specs.Values.{pair}
use Rattle.answer_rules.specs.Pieces.{chunk_value}
use Rattle.answer_rules.specs.declared.rewritten.ChunkItem.{ChunkItem}
use Rattle.near_join.proofs.bare.is_bare.Goals as goal

pub returns-then-are_ids : goal.returns-then-are_ids
returns-then-are_ids c = λ h.
    let rest = c.asks_no_more.ensures h in
    record {
      ids = λ u v. subst (λ (l : List ChunkItem). map (chunk_value (pair u v)) l ≡ Some u.id ∷ Some v.id ∷ []) c.as_slice.ensures (c.are_ids.ensures c.if-are_ids.true u v);
      order = rest.0;
      conds = rest.1;
    }
