-- Groups as an aggregation table stores them: a key, the number of rows, and the positions of the aggregate states.
use Rattle.std.specs.Prelude.{◌≡◌, ℕ, ◌+◌, ◌-◌, ◌≤◌, ℤ, Bool, length, map, List, [], ◌∷◌, None, Some, All, slice_range, if◌then◌else◌}
use Rattle.std.specs.List.{AllByRecursion}
use Rattle.table_rules.specs.declared.limits.TheConstants.{ROWS_MOST}
use Rattle.answer_rules.specs.declared.way.Way.{Way}
use Rattle.answer_rules.specs.Gather.{Partial, gather}
use Rattle.answer_rules.specs.Keys.{Key, key_order}
use Rattle.answer_rules.specs.Parts.{Part, Sums, add_own_sums}
use Rattle.answer_rules.specs.Small.{IsSmallGroup, rows_in}
use Rattle.partial_groups.specs.declared.group_entry.GroupEntry.{GroupEntry}

-- an aggregate state, by its fields
abbrev pub tally_of : Way → ℕ → Bool → ℤ → Part
tally_of way seen some value = record { way = way; seen = seen; value = if some then Some value else None }

-- the groups of a piece, one for each key
abbrev pub Gathered : Type 0
Gathered = List (Partial Key Sums)

-- the group, with its aggregate states
abbrev pub group_of : List Part → GroupEntry → Partial Key Sums
group_of parts m = record { key = m.key; part = record { rows = m.rows; parts = slice_range parts m.from m.to } }

-- a group with this key, the given number of rows and these aggregate states
abbrev pub group_by : Key → ℕ → List Part → Partial Key Sums
group_by key rows parts = record { key = key; part = record { rows = rows; parts = parts } }

-- The aggregate states of the group are in the list.
pub record IsThere (parts : ℕ) (m : GroupEntry) : Type 0 where
  pub order : m.from ≤ m.to
  pub there : m.to ≤ parts

-- how many aggregate states the group has
abbrev pub width_of : GroupEntry → ℕ
width_of m = m.to - m.from

-- the group with its aggregate states shifted by the given offset
abbrev pub moved : ℕ → GroupEntry → GroupEntry
moved n m = record { key = m.key; rows = m.rows; from = m.from + n; to = m.to + n }

-- the combine functions of a group's aggregate states
abbrev pub ways_in : Partial Key Sums → List Way
ways_in g = map (λ p. p.way) g.part.parts

-- the aggregate states of each group have these combine functions
abbrev pub HaveWays : List Way → Gathered → Type 0
HaveWays own gs = AllByRecursion (λ g. ways_in g ≡ own) gs

-- the aggregate states of all groups have the combine functions of the first group
abbrev pub AreAlike : Gathered → Type 0
AreAlike [] = Unit {0}
AreAlike (g ∷ gs) = HaveWays (ways_in g) (g ∷ gs)

-- the groups, those with the same key added up
abbrev pub gathered_of : List Part → List GroupEntry → Gathered
gathered_of parts groups = gather key_order add_own_sums (map (group_of parts) groups)

-- as many rows as a table may have
abbrev pub most_rows : ℕ
most_rows = ROWS_MOST

-- Groups whose aggregate states are in the list, have the same combine functions, and are as small as their rows allow.
-- Any two of them can be added up.
pub record AreAddable (parts : List Part) (groups : List GroupEntry) : Type 0 where
  pub there : All (IsThere (length parts)) groups
  pub alike : AreAlike (map (group_of parts) groups)
  pub small : AllByRecursion IsSmallGroup (map (group_of parts) groups)
  pub few : rows_in (map (group_of parts) groups) ≤ most_rows

-- Groups of two aggregation tables that have the same combine functions, and few enough rows together.
pub record MayGather (mine others : Gathered) : Type 0 where
  pub own : List Way
  pub this : HaveWays own mine
  pub that : HaveWays own others
  pub few : rows_in mine + rows_in others ≤ most_rows
