-- Texts, a partition and points of worked examples.
use Rattle.std.specs.Prelude.{ℕ, ℤ, pos, negsuc, List, [], ◌∷◌, codes}
use Rattle.std.specs.List.{repeat, range_with_len}
use Rattle.sky_vector.specs.Points.{Point}
use Rattle.sky_rules.specs.Partition.{Stripe, Partition}
use Rattle.sky_rules.specs.SkyWords.{Said}

-- a sky text of two stripes with one overlap
abbrev pub two_stripes : List ℕ
two_stripes = codes "overlap 5\nstripe -268435472 4 2 2\nstripe 0 4 2 2\n"

-- the stripe below the equator, of four chunks with two columns and two rows each
abbrev pub south : ℕ → Stripe
south r = record { z_low = negsuc 268435471; chunks = 4; columns = 2; rows = 2; overlap = r }

-- the stripe above the equator, of four chunks with two columns and two rows each
abbrev pub north : ℕ → Stripe
north r = record { z_low = pos 0; chunks = 4; columns = 2; rows = 2; overlap = r }

-- the partition of that text: eight chunks of four subchunks
abbrev pub halves : Partition
halves = record { stripes = south 5 ∷ north 5 ∷ [] }

-- the point of the equator on the first meridian
abbrev pub on_meridian : Point
on_meridian = record { x = pos 268435456; y = pos 0; z = pos 0 }

-- the point of the equator half way to the second chunk's meridian
abbrev pub on_diagonal : Point
on_diagonal = record { x = pos 189812531; y = pos 189812531; z = pos 0 }

-- a sky text in which each stripe has an overlap of its own
abbrev pub own_overlaps : List ℕ
own_overlaps = codes "version 2\nstripe -268435472 4 2 2 5\nstripe 0 4 2 2 2\n"

-- the first text with two chunks in its first stripe
abbrev pub two_chunks : List ℕ
two_chunks = codes "overlap 5\nstripe -268435472 2 2 2\nstripe 0 4 2 2\n"

-- the first text with its second stripe at the bottom of the sky
abbrev pub bottom_twice : List ℕ
bottom_twice = codes "overlap 5\nstripe -268435472 4 2 2\nstripe -268435472 4 2 2\n"

-- a stripe with the most chunks that a stripe can have
abbrev pub full_stripe : Stripe
full_stripe = record { z_low = negsuc 268435471; chunks = 1024; columns = 1; rows = 1; overlap = 5 }

-- the most stripes that a sky can have
abbrev pub all_stripes : List Stripe
all_stripes = repeat 256 (south 5 ∷ [])

-- the most chunks that a sky can have, in sixteen stripes
abbrev pub most_chunks : List Stripe
most_chunks = repeat 16 (full_stripe ∷ [])

-- the numbers of one more stripe on the equator, with the given number of chunks
abbrev pub one_more : ℕ → Said
one_more chunks = record { z_low = pos 0; chunks = pos chunks; columns = pos 1; rows = pos 1; overlap = pos 5 }

-- the numbers of a stripe line
abbrev pub numbers : (z_low chunks columns rows overlap : ℤ) → Said
numbers z_low chunks columns rows overlap =
    record { z_low = z_low; chunks = chunks; columns = columns; rows = rows; overlap = overlap }

-- the numbers of a stripe on the equator with the given chunks, columns and rows
abbrev pub cut_so : (chunks columns rows : ℕ) → Said
cut_so chunks columns rows = numbers (pos 0) (pos chunks) (pos columns) (pos rows) (pos 5)

-- the numbers of the eight chunks
abbrev pub eight : List ℕ
eight = range_with_len 0 8
