-- Pairs that sort as those without an order key, and whose values are their own two ids: only the ids are stored, packed into one number.
use Rattle.std.specs.Prelude.{ℕ, ◌+◌, ◌/◌, ◌%◌, ◌^◌, ◌<◌, ◌≤◌, ℤ, pos, ◌-ℤ◌, List, [], ◌∷◌, ◌++◌, map, Some, vec_capacity, vec_len}
use Rattle.answer_rules.specs.declared.rewritten.MergeItem.{MergeItem}
use Rattle.answer_rules.specs.declared.row.OutRow.{OutRow}
use Rattle.answer_rules.specs.declared.value.Value.{Value}
use Rattle.answer_rules.specs.Finish.{column_value}
use Rattle.partial_rows.specs.declared.id_pairs.IdPairs.{IdPairs}
use Rattle.partial_rows.specs.PackedKeys.{pair_in}

-- the first id of the pair, which is stored as how far it is above the lowest number of 64 bits
abbrev pub first_id_of : ℕ → ℤ
first_id_of p = pos (p / 2 ^ 64) -ℤ pos (2 ^ 63)

-- the second id of the pair, stored in the same way
abbrev pub second_id_of : ℕ → ℤ
second_id_of p = pos (p % 2 ^ 64) -ℤ pos (2 ^ 63)

-- the row of the pair, whose values are its ids
abbrev pub pair_row : ℕ → OutRow
pair_row p = record {
  class = 0;
  value = pos 0;
  first = first_id_of p;
  second = second_id_of p;
  cells = Some (first_id_of p) ∷ Some (second_id_of p) ∷ [];
}

-- the merged items of the pair
abbrev pub pair_values : List MergeItem → ℕ → List Value
pair_values items p = map (column_value (pair_row p).cells) items

-- the merged items of the short pair with this packed key
abbrev pub short_pair_values : List MergeItem → ℕ → List Value
short_pair_values items key = pair_values items (pair_in key)

-- all pairs, each packed into 128 bits
abbrev pub pairs_in : IdPairs → List ℕ
pairs_in p = p.wide.items ++ map pair_in p.short.items

-- Each list that is not empty has room for the elements of the other's list.
pub record HasRoomFor (p more : IdPairs) : Type 0 where
  pub wide : 0 < vec_len p.wide → vec_len p.wide + vec_len more.wide ≤ vec_capacity p.wide
  pub short : 0 < vec_len p.short → vec_len p.short + vec_len more.short ≤ vec_capacity p.short
