-- When aggregate states of groups may be combined, and what consolidation leaves of an aggregation table.
use Rattle.std.specs.Prelude.{◌≡◌, ℕ, ◌+◌, ◌^◌, ◌≤◌, false, List, [], ◌∷◌, length, map, reverse, slice_index_or, slice_range}
use Rattle.std.specs.Ordering.{is_lt}
use Rattle.value_rules.specs.Widths.{IsOfSize}
use Rattle.answer_rules.specs.Gather.{Partial}
use Rattle.answer_rules.specs.Keys.{Key, key_order}
use Rattle.answer_rules.specs.Parts.{Part, Sums, count_part}
use Rattle.answer_rules.specs.Small.{IsSmallGroup}
use Rattle.partial_groups.specs.declared.group_entry.GroupEntry.{GroupEntry}
use Rattle.partial_groups.specs.Groups.{AreAddable, Gathered, IsThere, gathered_of, group_of, most_rows, ways_in, width_of}

-- Two aggregate states that are small enough to be combined.
pub record MayAdd (a b : Part) : Type 0 where
  pub few : a.seen + b.seen ≤ most_rows
  pub mine : IsOfSize (2 ^ 124) a.value
  pub theirs : IsOfSize (2 ^ 124) b.value

-- the aggregate states of two groups may be combined, one by one
abbrev pub AllMayAdd : List Part → List Part → Type 0
AllMayAdd [] bs = Unit {0}
AllMayAdd (a ∷ xs) [] = Unit {0}
AllMayAdd (a ∷ xs) (b ∷ ys) = MayAdd a b × AllMayAdd xs ys

-- the aggregate state at a position
abbrev pub part_in : List Part → ℕ → Part
part_in parts i = slice_index_or parts i (count_part 0)

-- the aggregate states of a group
abbrev pub parts_of : List Part → GroupEntry → List Part
parts_of parts m = slice_range parts m.from m.to

-- how many aggregate states the first group has
abbrev pub width_in : List GroupEntry → ℕ
width_in [] = 0
width_in (m ∷ groups) = width_of m

-- A group of an aggregation table and one of a new aggregation table that may be added up.
pub record TwoFit (parts : List Part) (group : GroupEntry) (fresh : List Part) (last : GroupEntry) : Type 0 where
  pub group_there : IsThere (length parts) group
  pub last_there : IsThere (length fresh) last
  pub wide : width_of last ≡ width_of group
  pub rows : group.rows + last.rows ≤ most_rows
  pub add : AllMayAdd (parts_of parts group) (parts_of fresh last)

-- the groups of a new aggregation table, which is built from its last group to its first
abbrev pub stacked : List Part → List GroupEntry → Gathered
stacked fresh out = map (group_of fresh) (reverse out)

-- the group does not come after the first of these groups, and may be added to it
abbrev pub MayPut : Partial Key Sums → Gathered → Type 0
MayPut g [] = Unit {0}
MayPut g (h ∷ hs) =
    (is_lt (key_order h.key g.key) ≡ false) × (ways_in g ≡ ways_in h) × IsSmallGroup g × IsSmallGroup h
    × (g.part.rows + h.part.rows ≤ most_rows)

-- the group with its aggregate states from this position on
abbrev pub placed : ℕ → GroupEntry → GroupEntry
placed n m = record { key = m.key; rows = m.rows; from = n; to = n + width_of m }

-- the sum of a group and of the last one, with its aggregate states from this position on
abbrev pub summed : ℕ → GroupEntry → GroupEntry → GroupEntry
summed n m last = record { key = last.key; rows = m.rows + last.rows; from = n; to = n + width_of m }

-- An aggregation table that has the same view as another one.
pub record IsAs (parts : List Part) (groups : List GroupEntry) (now : List Part) (left : List GroupEntry) : Type 0 where
  pub addable : AreAddable now left
  pub same : gathered_of now left ≡ gathered_of parts groups
