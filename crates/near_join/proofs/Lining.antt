-- What a chunk query computes of a pair, of its rank and its values.
use Rattle.std.proofs.Common.{◌≡◌, ◌∙◌, ℤ, List, [], Option, map, ap}
use Rattle.value_rules.specs.Values.{Pick}
use Rattle.answer_rules.specs.Pieces.{chunk_lines, chunk_value}
use Rattle.answer_rules.specs.Rows.{out_row}
use Rattle.answer_rules.specs.declared.rewritten.ChunkQuery.{ChunkQuery}
use Rattle.partial_rows.specs.Multisets.{out_row as ranked}
use Rattle.partial_rows.specs.declared.rank.Rank.{Rank}
use Rattle.near_join.specs.Gains.{with_cells}

-- the rank of a pair with the values of the items is its row
pub row_is_line : (cq : ChunkQuery) (p : Pick) (rank : Rank) (values : List (Option ℤ)) → ranked rank [] ≡ with_cells [] (out_row (chunk_lines cq) p) → values ≡ map (chunk_value p) cq.items
    → ranked rank values ≡ out_row (chunk_lines cq) p
row_is_line cq p rank values e f = ap (with_cells values) e ∙ ap (λ cells. with_cells cells (out_row (chunk_lines cq) p)) f
