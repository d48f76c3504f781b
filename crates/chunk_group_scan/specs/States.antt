-- The aggregate states of the rows of a group, by the values of the aggregates' expressions.
use Rattle.std.specs.Prelude.{ℕ, ℤ, List, [], length, Option, None, Some, option_to_list, slice_range}
use Rattle.std.specs.List.{flat_map}
use Rattle.table_rules.specs.Objects.{Obj}
use Rattle.answer_rules.specs.declared.rewritten.ChunkItem.{ChunkItem}
use Rattle.answer_rules.specs.declared.rewritten.ChunkItem.TheVariants.{Plain, Count, CountOf, Sum, Min, Max}
use Rattle.answer_rules.specs.declared.way.Way.TheVariants.{Added, Least, Greatest}
use Rattle.answer_rules.specs.Parts.{Part, count_part, part_by}
use Rattle.chunk_filter.specs.Values.{values_on}

-- the values that are aggregated over some rows; COUNT(*) has none
abbrev pub argument_of : List Obj → ChunkItem → Option (List (Option ℤ))
argument_of objects (Plain e) = None
argument_of objects Count = None
argument_of objects (CountOf e) = Some (values_on e objects)
argument_of objects (Sum e) = Some (values_on e objects)
argument_of objects (Min e) = Some (values_on e objects)
argument_of objects (Max e) = Some (values_on e objects)

-- the numbers among the values from one index to before another, without NULL
abbrev pub numbers_between : Option (List (Option ℤ)) → ℕ → ℕ → List ℤ
numbers_between None from to = []
numbers_between (Some values) from to = flat_map option_to_list (slice_range values from to)

-- the aggregate state of an aggregate over the given number of rows, whose values are these numbers
abbrev pub state_of : ChunkItem → ℕ → List ℤ → Part
state_of (Plain e) rows numbers = count_part 0
state_of Count rows numbers = count_part rows
state_of (CountOf e) rows numbers = count_part (length numbers)
state_of (Sum e) rows numbers = part_by Added numbers
state_of (Min e) rows numbers = part_by Least numbers
state_of (Max e) rows numbers = part_by Greatest numbers
