-- The names of the columns of the object table.
use Rattle.std.specs.Prelude.{ℕ, Bool, false, not, ◌&&◌, List, [], ◌∷◌, ◌++◌, length, codes, Option, nat_le, nat_lt}
use Rattle.std.specs.List.{list_all, list_any, position}
use Rattle.std.specs.Str.{bytes_eq}
use Rattle.text_rules.specs.Words.{begins_word, continues_word}
use Rattle.table_rules.specs.declared.limits.TheConstants.{COLUMNS_MOST, NAME_MOST}

-- the text has a first byte, and a word can begin with it
abbrev pub begins_as_a_name : List ℕ → Bool
begins_as_a_name [] = false
begins_as_a_name (b ∷ bs) = begins_word b

-- the text is a name: a letter or an underscore, then letters, digits and underscores, 1 to 32 bytes in all
abbrev pub is_name : List ℕ → Bool
is_name text = begins_as_a_name text && list_all continues_word text && nat_le (length text) NAME_MOST

-- the names of the columns that every catalogue has
abbrev pub first_names : List (List ℕ)
first_names = codes "objectId" ∷ codes "x" ∷ codes "y" ∷ codes "z" ∷ []

-- the names of all columns in order, given those of the extra ones
abbrev pub column_names : List (List ℕ) → List (List ℕ)
column_names names = first_names ++ names

-- the text can be the name of one more column after these: a name and none of theirs, and they are fewer than `most`
abbrev pub can_be_next : ℕ → List (List ℕ) → List ℕ → Bool
can_be_next most columns text = nat_lt (length columns) most && is_name text && not (list_any (bytes_eq text) columns)

-- the text can be the name of one more column after these, in an object table, which has at most 16
abbrev pub can_follow : List (List ℕ) → List ℕ → Bool
can_follow columns text = can_be_next COLUMNS_MOST columns text

-- the number of the column with this name, from 0, and None if no column has it
abbrev pub column_of : List (List ℕ) → List ℕ → Option ℕ
column_of names name = position (bytes_eq name) (column_names names)
