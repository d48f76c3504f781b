-- A number for each row, and which of the rows have a value.
use Rattle.std.specs.Prelude.{◌≡◌, ℕ, ◌<◌, ◌≤◌, ℤ, pos, nat_abs, ◌+ℤ◌, ◌-ℤ◌, neg_ℤ, Bool, true, false, ◌&&◌}
use Rattle.std.specs.Prelude.{List, length, get_or, map, replicate, Option, None, Some, is_some, if◌then◌else◌}
use Rattle.std.specs.List.{range_with_len}
use Rattle.table_rules.specs.Objects.{Obj}
use Rattle.sky_row.specs.Columns.{no_row}
use Rattle.column_lists.specs.Columns.{or_zero}
use Rattle.value_rules.specs.Terms.{Term}
use Rattle.value_rules.specs.Widths.{most, width_at}
use Rattle.column_vectors.specs.Masks.{IsMask}
use Rattle.column_vectors.specs.Totals.{number_on, is_known}
use Rattle.column_vectors.specs.declared.numbers.Numbers.{Numbers}
use Rattle.column_vectors.specs.declared.numbers.Numbers.TheVariants.{Narrow, Wide, Same}
use Rattle.column_vectors.specs.declared.lane.Lane.{Lane}

-- the numbers themselves
abbrev pub numbers_of : Numbers → List ℤ
numbers_of (Narrow v) = v.items
numbers_of (Wide v) = v.items
numbers_of (Same n count) = replicate count n

-- The column vector of a term on some rows: a number for each, which is the value of the term if NULL counts as 0;
-- whether the term has a value there; and the largest size that the numbers can have.
pub record IsLane (rows : List Obj) (t : Term) (lane : Lane) : Type 0 where
  pub bound : lane.bound ≡ width_at t
  pub count : length (numbers_of lane.numbers) ≡ length rows
  pub masked : length lane.known.items ≡ length rows
  pub numbers : (k : ℕ) → k < length rows
      → get_or (numbers_of lane.numbers) k (pos 0) ≡ number_on (get_or rows k no_row) t
  pub known : (k : ℕ) → k < length rows → get_or lane.known.items k false ≡ is_known (get_or rows k no_row) t

-- Numbers that can be combined: as many on each side, and no result is above the bound in size.
pub record CanJoin (op : ℤ → ℤ → ℤ) (bound : ℕ) (left right : List ℤ) : Type 0 where
  pub count : length right ≡ length left
  pub few : bound ≤ most
  pub fits : (k : ℕ) → k < length left → nat_abs (op (get_or left k (pos 0)) (get_or right k (pos 0))) ≤ bound

-- Numbers that are combined, element by element.
pub record AreJoined (op : ℤ → ℤ → ℤ) (left right joined : List ℤ) : Type 0 where
  pub count : length joined ≡ length left
  pub each : (k : ℕ) → k < length left
      → get_or joined k (pos 0) ≡ op (get_or left k (pos 0)) (get_or right k (pos 0))

-- Two column vectors combined: their numbers element by element, valid at each row at which both are.
pub record AreLanesJoined (op : ℤ → ℤ → ℤ) (size : ℕ) (left right joined : Lane) : Type 0 where
  pub bound : joined.bound ≡ size
  pub numbers : AreJoined op (numbers_of left.numbers) (numbers_of right.numbers) (numbers_of joined.numbers)
  pub known : IsMask (length left.known.items) (λ k. get_or left.known.items k false && get_or right.known.items k false)
      joined.known.items

-- A column vector that has one number everywhere.
pub record IsRepeated (n : ℤ) (count : ℕ) (lane : Lane) : Type 0 where
  pub bound : lane.bound ≡ nat_abs n
  pub numbers : numbers_of lane.numbers ≡ replicate count n
  pub known : lane.known.items ≡ replicate count true

-- A column vector and the same one with each number materialised in a list: they differ only in how the numbers are
-- stored.
pub record IsListed (lane listed : Lane) : Type 0 where
  pub bound : listed.bound ≡ lane.bound
  pub numbers : numbers_of listed.numbers ≡ numbers_of lane.numbers
  pub known : listed.known.items ≡ lane.known.items

-- A column vector that was read from a column at the rows with these numbers.
pub record IsRead (column : List (Option ℤ)) (places : List ℕ) (size : ℕ) (lane : Lane) : Type 0 where
  pub bound : lane.bound ≡ size
  pub count : length (numbers_of lane.numbers) ≡ length places
  pub masked : length lane.known.items ≡ length places
  pub numbers : (k : ℕ) → k < length places
      → get_or (numbers_of lane.numbers) k (pos 0) ≡ or_zero (get_or column (get_or places k 0) None)
  pub known : (k : ℕ) → k < length places
      → get_or lane.known.items k false ≡ is_some (get_or column (get_or places k 0) None)

-- the numbers of a column vector are within its bound, which is not too large
pub record IsSmall (lane : Lane) : Type 0 where
  pub masked : length lane.known.items ≡ length (numbers_of lane.numbers)
  pub few : lane.bound ≤ most
  pub fits : (k : ℕ) → k < length (numbers_of lane.numbers) → nat_abs (get_or (numbers_of lane.numbers) k (pos 0)) ≤ lane.bound

-- A column vector, or with `minus` its negation.
pub record IsSigned (minus : Bool) (lane signed : Lane) : Type 0 where
  pub bound : signed.bound ≡ lane.bound
  pub count : length (numbers_of signed.numbers) ≡ length (numbers_of lane.numbers)
  pub masked : length signed.known.items ≡ length lane.known.items
  pub numbers : (k : ℕ) → k < length lane.known.items → get_or (numbers_of signed.numbers) k (pos 0)
      ≡ (if minus then neg_ℤ (get_or (numbers_of lane.numbers) k (pos 0)) else get_or (numbers_of lane.numbers) k (pos 0))
  pub known : (k : ℕ) → k < length lane.known.items → get_or signed.known.items k false ≡ get_or lane.known.items k false

-- a number added, or with `minus` subtracted
abbrev pub with_sign : Bool → ℤ → ℤ → ℤ
with_sign true a b = a -ℤ b
with_sign false a b = a +ℤ b

-- the value at an index: the number there, if it is valid
abbrev pub value_in : List ℤ → List Bool → ℕ → Option ℤ
value_in numbers known k = if get_or known k false then Some (get_or numbers k (pos 0)) else None

-- all values
abbrev pub values_in : List ℤ → List Bool → List (Option ℤ)
values_in numbers known = map (value_in numbers known) (range_with_len 0 (length known))
