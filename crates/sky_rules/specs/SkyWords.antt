-- The content of a line of a sky text, before it is checked.
use Rattle.std.specs.Prelude.{ℕ, ℤ, List, [], ◌∷◌, ◌++◌, map, codes, Option, None, Some, option_map, if◌then◌else◌}
use Rattle.std.specs.Option.{option_and_then}
use Rattle.std.specs.Str.{bytes_eq}
use Rattle.text_rules.specs.Lines.{pieces}
use Rattle.text_rules.specs.Numbers.{int_of}

-- The two versions: in the first all stripes share one overlap, in the second each has its own.
pub data Version : Type 0 where
  shared : ℤ → Version
  own : Version

-- The numbers of a stripe line, before they are checked.
pub record Said : Type 0 where
  pub z_low : ℤ
  pub chunks : ℤ
  pub columns : ℤ
  pub rows : ℤ
  pub overlap : ℤ

-- all the values, if each is there
abbrev pub all_there : List (Option ℤ) → Option (List ℤ)
all_there [] = Some []
all_there (None ∷ rest) = None
all_there (Some n ∷ rest) = option_map (λ ns. n ∷ ns) (all_there rest)

-- the numbers of a line's words after its first, if that is the keyword; words are separated by exactly one space
abbrev pub numbers_after : List ℕ → List (List ℕ) → Option (List ℤ)
numbers_after keyword [] = None
numbers_after keyword (word ∷ rest) = if bytes_eq word keyword then all_there (map int_of rest) else None

-- the numbers of the line `KEYWORD NUMBER ..`
abbrev pub numbers_on : List ℕ → List ℕ → Option (List ℤ)
numbers_on keyword text = numbers_after keyword (pieces 32 text)

-- the version in which all stripes share the one number
abbrev pub sharing : List ℤ → Option Version
sharing (r ∷ []) = Some (shared r)
sharing _ = None

-- the version on a first line: `version 2`, or `overlap R`
abbrev pub version_on : List ℕ → Option Version
version_on text =
    if bytes_eq text (codes "version 2") then Some own
    else option_and_then sharing (numbers_on (codes "overlap") text)

-- the numbers of a stripe with its overlap
abbrev pub with_overlap : Version → List ℤ → List ℤ
with_overlap (shared r) numbers = numbers ++ (r ∷ [])
with_overlap own numbers = numbers

-- five numbers as those of a stripe
abbrev pub five_said : List ℤ → Option Said
five_said (z ∷ chunks ∷ columns ∷ rows ∷ r ∷ []) =
    Some (record { z_low = z; chunks = chunks; columns = columns; rows = rows; overlap = r })
five_said _ = None

-- the numbers on a stripe line: `stripe ZLO CHUNKS COLUMNS ROWS`, followed by R in the second version
abbrev pub said_on : Version → List ℕ → Option Said
said_on version text =
    option_and_then (λ numbers. five_said (with_overlap version numbers)) (numbers_on (codes "stripe") text)
