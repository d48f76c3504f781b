-- The cutoff of the first n rows: the order key of a row that came too late for them.
use Rattle.std.specs.Prelude.{◌≡◌, ℤ, Bool, true, false, not, int_lt, Option, Some, None}
use Rattle.answer_rules.specs.Pieces.{PieceView}
use Rattle.partial_merge.specs.Joining.{IsNoneOfFirst}
use Rattle.chunk_row_scan.specs.Computed.{rank_by}

-- there is a cutoff, and the order key is a number that comes after it; NULL is left to the piece
abbrev pub is_beyond : Bool → Option ℤ → Option ℤ → Bool
is_beyond down None key = false
is_beyond down (Some cutoff) None = false
is_beyond false (Some cutoff) (Some n) = int_lt cutoff n
is_beyond true (Some cutoff) (Some n) = int_lt n cutoff

-- there is a cutoff, and the order key is a number that does not come after it
abbrev pub is_number_up_to : Bool → Option ℤ → Option ℤ → Bool
is_number_up_to down None key = false
is_number_up_to down (Some cutoff) None = false
is_number_up_to down (Some cutoff) (Some n) = not (is_beyond down (Some cutoff) (Some n))

-- a row whose order key is beyond the cutoff is none of the first n rows of the piece, whatever its id and values
abbrev pub IsCutoff : Bool → PieceView → Option ℤ → Type 0
IsCutoff down view cutoff =
    (key : Option ℤ) (id : ℤ) → is_beyond down cutoff key ≡ true → IsNoneOfFirst view (rank_by down key id)

-- the cutoff once a row with this order key was offered: the key if the row came too late, unless it is NULL
abbrev pub cutoff_after : Bool → Option ℤ → Option ℤ → Option ℤ
cutoff_after true cutoff (Some n) = Some n
cutoff_after true cutoff None = cutoff
cutoff_after false cutoff key = cutoff
