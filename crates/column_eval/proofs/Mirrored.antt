-- Comparisons with their sides exchanged.
use Rattle.std.proofs.Common.{◌≡◌, ℤ, Some}
use Rattle.sql_tree.specs.declared.cond.Cmp.{Cmp}
use Rattle.value_rules.specs.ColumnTests.{mirrored}
use Rattle.value_rules.specs.Truth.{compared, compares}
use Rattle.value_rules.proofs.ColumnTests.{mirrored_compares}

-- the mirrored comparison of two numbers is the comparison with its sides exchanged
pub mirrored_numbers : (op : Cmp) (a b : ℤ) → compares (mirrored op) a b ≡ compares op b a
mirrored_numbers op a b =
    let same : compared (mirrored op) (Some a) (Some b) ≡ compared op (Some b) (Some a) = mirrored_compares op (Some b) (Some a) in
    cc
