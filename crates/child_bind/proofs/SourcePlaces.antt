-- The number of a column of sources is below their count.
use Rattle.std.proofs.Common.{◌≡◌, ℕ, ◌<◌, ◌≤◌, List, [], length, Some, arith}
use Rattle.std.specs.Str.{bytes_eq}
use Rattle.std.proofs.lemmas.List.Quantifiers.{position-Some}
use Rattle.source_rules.specs.SourceNames.{source_column_names, source_column_of}

-- a column is one of 14, if at most 12 are extra ones
pub source_below : (names : List (List ℕ)) (name : List ℕ) (k : ℕ) → length names ≤ 12 → source_column_of names name ≡ Some k → k < 14
source_below names name k few is =
    let below = (position-Some (bytes_eq name) (source_column_names names) k [] is).0 in omega (arith, below, few)
