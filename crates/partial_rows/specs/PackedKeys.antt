-- Packed keys: a compact row without a second id, or a pair of ids, in one number of 64 bits. Packed keys ascend as the
-- rows do. The ids are from 0 to below 2^32.
use Rattle.std.specs.Prelude.{ℕ, pos, ◌+◌, ◌*◌, ◌/◌, ◌%◌, ◌^◌}
use Rattle.partial_rows.specs.declared.compact_row.CompactRow.{CompactRow}

-- the compact row: its first id is in the higher half of the packed key, and the position of its values in the lower half
abbrev pub row_in : ℕ → CompactRow
row_in key = record { first = pos (key / 2 ^ 32); second = pos 0; from = key % 2 ^ 32 }

-- the pair, packed into 128 bits: its first id is in the higher half of the packed key, and its second id in the lower half
abbrev pub pair_in : ℕ → ℕ
pair_in key = (key / 2 ^ 32 + 2 ^ 63) * 2 ^ 64 + (key % 2 ^ 32 + 2 ^ 63)
