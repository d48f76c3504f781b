-- The values of a key, however they are stored.
use Rattle.std.specs.Prelude.{ℕ, ℤ, pos, Bool, false, List, [], ◌∷◌, Option, Some, None, get_or, if◌then◌else◌, min, take}
use Rattle.group_key.specs.declared.key.Values.{Values}
use Rattle.group_key.specs.declared.key.Values.TheVariants as values
use Rattle.group_key.specs.declared.limits.TheConstants.{SHORT_KEY_MOST}

-- a number, or NULL
abbrev pub cell_by : Bool → ℤ → Option ℤ
cell_by present number = if present then Some number else None

-- the value at a position of a short key
abbrev pub cell_in : List Bool → List ℤ → ℕ → Option ℤ
cell_in present numbers i = cell_by (get_or present i false) (get_or numbers i (pos 0))

-- the first n of these values
abbrev pub first_of_four : ℕ → Option ℤ → Option ℤ → Option ℤ → Option ℤ → List (Option ℤ)
first_of_four taken a b c d = take (min taken SHORT_KEY_MOST) (a ∷ (b ∷ (c ∷ (d ∷ []))))

-- the values of a short key
abbrev pub few_values : ℕ → List Bool → List ℤ → List (Option ℤ)
few_values taken present numbers =
    first_of_four taken (cell_in present numbers 0) (cell_in present numbers 1) (cell_in present numbers 2) (cell_in present numbers 3)

-- the values of a key: few are in the key itself, more are in a list
abbrev pub values_in : Values → List (Option ℤ)
values_in (values.Short taken present numbers) = few_values taken present numbers
values_in (values.Long v) = v.items
