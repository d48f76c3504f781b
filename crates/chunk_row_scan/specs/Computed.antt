-- What a chunk query computes of rows, a column at a time.
use Rattle.std.specs.Prelude.{◌+◌, ℕ, ℤ, pos, Bool, List, get_or, map, Option, None, Some, All}
use Rattle.table_rules.specs.Objects.{Obj}
use Rattle.value_rules.specs.Values.{row}
use Rattle.answer_rules.specs.declared.rewritten.ChunkItem.{ChunkItem}
use Rattle.answer_rules.specs.declared.rewritten.ChunkOrder.{ChunkOrder}
use Rattle.answer_rules.specs.Pieces.{chunk_value}
use Rattle.answer_rules.specs.Ranks.{rank_class, rank_value}
use Rattle.partial_rows.specs.declared.rank.Rank.{Rank}
use Rattle.chunk_filter.specs.Values.{IsReady, values_on}

-- the order keys of some rows; there are none without an order
abbrev pub keys_on : List Obj → Option ChunkOrder → Option (List (Option ℤ))
keys_on objects None = None
keys_on objects (Some order) = Some (values_on order.key objects)

-- the value at an index, or NULL if there are no values
abbrev pub key_in : Option (List (Option ℤ)) → ℕ → Option ℤ
key_in None i = None
key_in (Some values) i = get_or values i None

-- the values of an item on some rows
abbrev pub item_on : List Obj → ChunkItem → List (Option ℤ)
item_on objects item = map (λ o. chunk_value (row o) item) objects

-- each column has a value at the index, and none that is too large
abbrev pub AreReady : ℕ → List (List (Option ℤ)) → Type 0
AreReady i columns = All (λ column. IsReady (i + 1) (Some column)) columns

-- the sort key of a row with this order key and this id
abbrev pub rank_by : Bool → Option ℤ → ℤ → Rank
rank_by down key id = record { class = rank_class down key; value = rank_value down key; first = id; second = pos 0 }
