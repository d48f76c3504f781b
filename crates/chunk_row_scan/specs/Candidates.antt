-- Candidates for the first n rows: if only these are offered, all other rows may be skipped.
use Rattle.std.specs.Prelude.{◌≡◌, ℤ, Bool, true, ◌++◌, List, map, All, Option, IsPermutation}
use Rattle.table_rules.specs.Objects.{Obj}
use Rattle.value_rules.specs.Values.{row}
use Rattle.answer_rules.specs.declared.rewritten.ChunkQuery.{ChunkQuery}
use Rattle.answer_rules.specs.Keeps.{KeepsFirst}
use Rattle.answer_rules.specs.Pieces.{chunk_down, chunk_key}
use Rattle.answer_rules.specs.Ranks.{row_order}
use Rattle.answer_rules.specs.Rows.{limit_of}
use Rattle.chunk_row_scan.specs.Cutoffs.{is_beyond, is_number_up_to}
use Rattle.chunk_row_scan.specs.Lines.{line}

-- there is a cutoff, and the row's order key is a number that does not come after it
abbrev pub is_row_up_to : ChunkQuery → Option ℤ → Obj → Bool
is_row_up_to cq cutoff o = is_number_up_to (chunk_down cq.order) cutoff (chunk_key cq.order (row o))

-- the row is beyond the cutoff
abbrev pub IsRowBeyond : ChunkQuery → Option ℤ → Obj → Type 0
IsRowBeyond cq cutoff o = is_beyond (chunk_down cq.order) cutoff (chunk_key cq.order (row o)) ≡ true

-- The candidates are all of the rows, in any order, except for some that are beyond the cutoff.
pub record LackOnlyBeyond (cq : ChunkQuery) (cutoff : Option ℤ) (rows candidates : List Obj) : Type 0 where
  pub left_out : List Obj
  pub all : IsPermutation rows (left_out ++ candidates)
  pub beyond : All (IsRowBeyond cq cutoff) left_out

-- the candidates are of these rows, in any order; with a LIMIT n they may lack rows that are none of the first n
abbrev pub HaveFirst : ChunkQuery → List Obj → List Obj → Type 0
HaveFirst cq rows candidates =
    KeepsFirst row_order (limit_of cq.limit) (map (line cq) rows) (map (line cq) candidates)
