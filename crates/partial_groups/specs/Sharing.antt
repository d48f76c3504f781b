-- Groups that share no aggregate state: what is added to those of one group leaves the others as they were.
use Rattle.std.specs.Prelude.{◌≡◌, ℕ, ◌+◌, ◌≤◌, ◌<◌, List, [], ◌∷◌, slice_index_or}
use Rattle.std.specs.List.{AllByRecursion}
use Rattle.answer_rules.specs.Parts.{Part}
use Rattle.partial_groups.specs.declared.group_entry.GroupEntry.{GroupEntry}
use Rattle.partial_groups.specs.Adding.{part_in}

-- no aggregate state is of both groups
abbrev pub ShareNone : GroupEntry → GroupEntry → Type 0
ShareNone m n = (i : ℕ) → m.from ≤ i → i < m.to → n.from ≤ i → i < n.to → ⊥

-- no two of the groups share an aggregate state
abbrev pub HaveOwnParts : List GroupEntry → Type 0
HaveOwnParts [] = Unit {0}
HaveOwnParts (m ∷ ms) = AllByRecursion (ShareNone m) ms × HaveOwnParts ms

-- the aggregate states outside this range of positions are as they were
abbrev pub KeepsRest : List Part → List Part → ℕ → ℕ → Type 0
KeepsRest old new a b = (i : ℕ) → (a ≤ i → i < b → ⊥) → part_in new i ≡ part_in old i

-- the group at a position
abbrev pub group_entry_in : List GroupEntry → ℕ → GroupEntry
group_entry_in groups i = slice_index_or groups i (record { key = []; rows = 0; from = 0; to = 0 })

-- the group with n more rows
abbrev pub grown : ℕ → GroupEntry → GroupEntry
grown n m = record { key = m.key; rows = n + m.rows; from = m.from; to = m.to }
