-- Rows that are not in a group yet. Each has one number as its key, and is the group of that one row.
use Rattle.std.specs.Prelude.{◌≡◌, ◌≤◌, ◌+◌, ℕ, ℤ, Bool, List, [], ◌∷◌, ◌++◌, map, Some, if◌then◌else◌}
use Rattle.std.specs.Global.{Vec}
use Rattle.std.specs.List.{flat_map}
use Rattle.answer_rules.specs.declared.way.Way.{Way}
use Rattle.answer_rules.specs.Gather.{Partial, gather}
use Rattle.answer_rules.specs.Keys.{Key, key_order}
use Rattle.answer_rules.specs.Parts.{Part, Sums, add_own_sums, count_part}
use Rattle.answer_rules.specs.Small.{rows_in}
use Rattle.partial_groups.specs.Groups.{AreAlike, Gathered, HaveWays, group_by, most_rows}

-- the aggregate states of n rows of a group, if each aggregate counts either all rows or none
abbrev pub counts_of : List Bool → ℕ → List Part
counts_of counted n = map (λ c. count_part (if c then n else 0)) counted

-- the group of n rows whose key is this one number
abbrev pub counted_group : List Bool → ℕ → ℤ → Partial Key Sums
counted_group counted n value = group_by (Some value ∷ []) n (counts_of counted n)

-- the groups of one row each, by the numbers that are their keys
abbrev pub row_groups : List Bool → List ℤ → Gathered
row_groups counted values = map (counted_group counted 1) values

-- the numbers of all lists, one list after another
abbrev pub values_in : List (Vec ℤ) → List ℤ
values_in lists = flat_map (λ list. list.items) lists

-- Groups, and rows that are not in a group yet, with the same combine functions, and few enough rows together.
pub record AreCombinable (groups rows : Gathered) : Type 0 where
  pub alike : AreAlike (groups ++ rows)
  pub few : rows_in (groups ++ rows) ≤ most_rows

-- Groups and rows of two pieces that have the same combine functions, and few enough rows together.
pub record AreBothCombinable (groups rows more others : Gathered) : Type 0 where
  pub own : List Way
  pub this : HaveWays own (groups ++ rows)
  pub that : HaveWays own (more ++ others)
  pub few : rows_in (groups ++ rows) + rows_in (more ++ others) ≤ most_rows

-- The groups and rows of two pieces, put together: what they add up to is what all groups and rows of both add up to.
pub record IsJoined (groups rows more others now left : Gathered) : Type 0 where
  pub combinable : AreCombinable now left
  pub same : gather key_order add_own_sums (now ++ left)
      ≡ gather key_order add_own_sums (gather key_order add_own_sums (groups ++ rows) ++ (more ++ others))
