-- Blocks that are written one after another: those from an index on.
use Rattle.std.proofs.Common.{◌≡◌, ℕ, ◌+◌, ◌<◌, ◌≤◌, List, [], ◌++◌, length, drop, get_or, ap}
use Rattle.std.proofs.Common.{add-one, drop-cons}
use Rattle.std.proofs.lemmas.List.{drop_all}
use Rattle.sql_rules.specs.PrintedExprs.{Bytes}
use Rattle.text_rules.specs.Readings.{joined}

-- the blocks from an index on are the one there and those after it
pub next_block : (blocks : List Bytes) (i : ℕ) → i < length blocks
    → joined (drop i blocks) ≡ get_or blocks i [] ++ joined (drop (i + 1) blocks)
next_block blocks i low = rw add-one (ap joined (drop-cons blocks i [] low))

-- after the last one there is none
pub no_block : (blocks : List Bytes) (i : ℕ) → length blocks ≤ i → joined (drop i blocks) ≡ []
no_block blocks i high = ap joined (drop_all i blocks high)
