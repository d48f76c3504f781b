-- The meaning of a sky text: a partition, or the first fault. A line is checked by itself and against the stripes of
-- the lines before it. Of one line the first fault counts, in the order given here.
use Rattle.std.specs.Prelude.{ℕ, ◌+◌, ℤ, pos, ◌+ℤ◌, nat_abs, int_le, nat_lt, length, Bool, not, ◌&&◌, ◌||◌}
use Rattle.std.specs.Prelude.{List, [], ◌∷◌, ◌++◌, get_or, take, Option, None, Some, option_map, Result, Ok, Err, if◌then◌else◌}
use Rattle.std.specs.List.{filter, flat_map, last_or, range_with_len}
use Rattle.std.specs.Option.{option_to_list}
use Rattle.std.specs.Ordering.{int_eq}
use Rattle.text_rules.specs.Lines.{Line, lines_of, is_note}
use Rattle.text_rules.specs.Readings.{judged}
use Rattle.sky_rules.specs.Partition.{Stripe, Partition, sky_bottom, sky_end, chunks_in}
use Rattle.sky_rules.specs.SkyWords.{Version, shared, own, Said, version_on, said_on}
use Rattle.sky_rules.specs.declared.limits.TheConstants.{STRIPES_MOST, CHUNKS_MOST, STRIPE_CHUNKS_MOST}
use Rattle.sky_rules.specs.declared.limits.TheConstants.{CUTS_MOST, HEIGHT_LEAST, OVERLAP_MOST}
use Rattle.sky_rules.specs.declared.fault.SkyFault.{SkyFault}
use Rattle.sky_rules.specs.declared.fault.SkyFault.TheVariants.{Syntax, Overlap, Order, Count, TooMany}

-- the number is in the range
abbrev pub is_from : ℤ → ℤ → ℤ → Bool
is_from low high n = int_le low n && int_le n high

-- an overlap radius is from 0 to the largest
abbrev pub is_overlap : ℤ → Bool
is_overlap r = is_from (pos 0) (pos OVERLAP_MOST) r

-- the first stripe begins at the bottom of the sky, and each other at least the least height above the one before it
abbrev pub begins_above : Option Stripe → ℤ → Bool
begins_above None z = int_eq z sky_bottom
begins_above (Some below) z = int_le (below.z_low +ℤ pos HEIGHT_LEAST) z

-- the stripe begins at an allowed height after those before it, and at least the least height below the end of the sky
abbrev pub is_in_order : List Stripe → ℤ → Bool
is_in_order before z = begins_above (last_or None before) z && int_le (z +ℤ pos HEIGHT_LEAST) sky_end

-- the counts are those that a stripe can have: 1 chunk or at least 3, at least 1 column and not 2 of one chunk, at
-- least 1 row, and not more of each than the limits
abbrev pub is_cut : Said → Bool
is_cut said =
    (int_eq said.chunks (pos 1) || is_from (pos 3) (pos STRIPE_CHUNKS_MOST) said.chunks)
    && is_from (pos 1) (pos CUTS_MOST) said.columns
    && not (int_eq said.chunks (pos 1) && int_eq said.columns (pos 2))
    && is_from (pos 1) (pos CUTS_MOST) said.rows

-- with this one there are not more stripes, and not more chunks, than the limits
abbrev pub is_room : List Stripe → ℤ → Bool
is_room before chunks = nat_lt (length before) STRIPES_MOST && int_le (pos (chunks_in before) +ℤ chunks) (pos CHUNKS_MOST)

-- the stripe of these numbers
abbrev pub stripe_said : Said → Stripe
stripe_said said = record {
  z_low = said.z_low;
  chunks = nat_abs said.chunks;
  columns = nat_abs said.columns;
  rows = nat_abs said.rows;
  overlap = nat_abs said.overlap;
}

-- the stripe on a line that follows these stripes, or its fault
abbrev pub judged_stripe : ℕ → List Stripe → Option Said → Result Stripe SkyFault
judged_stripe line before None = Err (Syntax line)
judged_stripe line before (Some said) =
    if not (is_overlap said.overlap) then Err (Overlap line)
    else if not (is_in_order before said.z_low) then Err (Order line)
    else if not (is_cut said) then Err (Count line)
    else if not (is_room before said.chunks) then Err (TooMany line)
    else Ok (stripe_said said)

-- the fault of a checked line
abbrev pub fault_of : Result Stripe SkyFault → List SkyFault
fault_of (Ok stripe) = []
fault_of (Err fault) = fault ∷ []

-- the stripe that a line spells, if it spells one
abbrev pub stripe_on : Version → Line → List Stripe
stripe_on version line = option_to_list (option_map stripe_said (said_on version line.text))

-- the stripes that these lines spell
abbrev pub stripes_on : Version → List Line → List Stripe
stripes_on version lines = flat_map (stripe_on version) lines

-- the placeholder for a missing line
abbrev pub no_line : Line
no_line = record { number = 0; text = [] }

-- the fault of a line after these earlier ones
abbrev pub line_faults : Version → List Line → Line → List SkyFault
line_faults version earlier line =
    fault_of (judged_stripe line.number (stripes_on version earlier) (said_on version line.text))

-- the faults of the stripe lines, line by line, each checked after those before it
abbrev pub stripe_faults : Version → List Line → List SkyFault
stripe_faults version lines =
    flat_map (λ i. line_faults version (take i lines) (get_or lines i no_line)) (range_with_len 0 (length lines))

-- the fault that there is no stripe, placed after the last line
abbrev pub no_stripe_fault : ℕ → List Stripe → List SkyFault
no_stripe_fault behind [] = Syntax behind ∷ []
no_stripe_fault behind (stripe ∷ rest) = []

-- the partition of the lines after the first; `behind` is the number after that of the text's last line
abbrev pub sky_under : ℕ → Version → List Line → Result Partition SkyFault
sky_under behind version lines =
    judged (stripe_faults version lines ++ no_stripe_fault behind (stripes_on version lines))
    (record { stripes = stripes_on version lines })

-- the version on the first line, or its fault
abbrev pub judged_version : ℕ → Option Version → Result Version SkyFault
judged_version line None = Err (Syntax line)
judged_version line (Some own) = Ok own
judged_version line (Some (shared r)) = if is_overlap r then Ok (shared r) else Err (Overlap line)

-- the fault if there is one, and else the result of the continuation on the value
abbrev pub unless_fault : {A B : Type 0} → Result A SkyFault → (A → Result B SkyFault) → Result B SkyFault
unless_fault (Err fault) next = Err fault
unless_fault (Ok a) next = next a

-- the partition of the lines that are not comment lines, the first of which has the version
abbrev pub sky_of_lines : ℕ → List Line → Result Partition SkyFault
sky_of_lines behind [] = Err (Syntax behind)
sky_of_lines behind (first ∷ rest) =
    unless_fault (judged_version first.number (version_on first.text)) (λ version. sky_under behind version rest)

-- the partition that a sky text spells, or its first fault
unfoldable pub sky_of : List ℕ → Result Partition SkyFault
sky_of text =
    let all = lines_of text in sky_of_lines (length all + 1) (filter (λ line. not (is_note line.text)) all)
