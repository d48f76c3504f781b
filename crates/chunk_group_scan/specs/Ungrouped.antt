-- Rows that are not grouped by the scan.
use Rattle.std.specs.Prelude.{◌≡◌, Bool, List, [], ◌∷◌, map, if◌then◌else◌}
use Rattle.value_rules.specs.Values.{Pick}
use Rattle.answer_rules.specs.declared.rewritten.ChunkItem.{ChunkItem}
use Rattle.answer_rules.specs.Parts.{count_part, part_over}
use Rattle.partial_groups.specs.Ungrouped.{counts_of}

-- the aggregate counts each row, or no row
abbrev pub IsCounted : ChunkItem → Bool → Type 0
IsCounted item counted = (p : Pick) → part_over (p ∷ []) item ≡ count_part (if counted then 1 else 0)

-- each of the aggregates counts each row, or no row
abbrev pub AreCounted : List ChunkItem → List Bool → Type 0
AreCounted items counted = (p : Pick) → map (part_over (p ∷ [])) items ≡ counts_of counted 1
