-- The part of a sky text that is left while it is read.
use Rattle.std.specs.Prelude.{◌≡◌, ℕ, ◌+◌, nat_le, ℤ, pos, ◌+ℤ◌, int_le, Bool, ◌&&◌, not}
use Rattle.std.specs.Prelude.{List, [], ◌∷◌, ◌++◌, length, Option, None, Some, Result, Ok, if◌then◌else◌}
use Rattle.std.specs.List.{filter}
use Rattle.text_rules.specs.Lines.{Line, is_note}
use Rattle.sky_rules.specs.SkyWords.{Version, shared, own}
use Rattle.sky_rules.specs.Partition.{Stripe, Partition, sky_end}
use Rattle.sky_rules.specs.SkyText.{sky_of_lines, sky_under}
use Rattle.sky_rules.specs.declared.limits.TheConstants.{HEIGHT_LEAST}
use Rattle.sky_rules.specs.declared.fault.SkyFault.{SkyFault}

-- The lines that are left of a text, and the number of the first of them.
pub record LinesLeft : Type 0 where
  pub lines : List Line
  pub number : ℕ

-- those of these lines that are not comment lines
abbrev pub said_lines : List Line → List Line
said_lines lines = filter (λ line. not (is_note line.text)) lines

-- the number after that of the text's last line
abbrev pub behind : LinesLeft → ℕ
behind left = left.number + length left.lines

-- the partition that these lines spell, of which the first spells the version
abbrev pub sky_on : LinesLeft → Result Partition SkyFault
sky_on left = sky_of_lines (behind left) (said_lines left.lines)

-- the partition that these lines spell under that version, a stripe each
abbrev pub sky_left : Version → LinesLeft → Result Partition SkyFault
sky_left version left = sky_under (behind left) version (said_lines left.lines)

-- the numbers, if there are at most five
abbrev pub at_most_five : List ℤ → Option (List ℤ)
at_most_five numbers = if nat_le (length numbers) 5 then Some numbers else None

-- the version in which all stripes share this overlap, or each has its own
abbrev pub version_of : Option ℤ → Version
version_of None = own
version_of (Some r) = shared r

-- a stripe can begin at z above one that begins at `below`
abbrev pub is_above : ℤ → ℤ → Bool
is_above below z = int_le (below +ℤ pos HEIGHT_LEAST) z && int_le (z +ℤ pos HEIGHT_LEAST) sky_end

-- the line spells a stripe, which is appended to the others
abbrev pub Adds : Result Stripe SkyFault → List Stripe → List Stripe → Type 0
Adds judged old new = (stripe : Stripe) × (judged ≡ Ok stripe) × (new ≡ old ++ stripe ∷ [])
