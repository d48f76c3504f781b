-- The columns of some sources of a table.
use Rattle.std.specs.Prelude.{◌≡◌, ℕ, ◌<◌, List, [], length, get_or}
use Rattle.source_rules.specs.Sources.{SourceTable}
use Rattle.source_row.specs.SourceColumns.{AreEven, SourceParts, no_sources, sources_at, sources_in}

-- Columns of one length, one for each extra column of the table, which have the sources with these numbers, in their order.
pub record AreColumnsOf (t : SourceTable) (places : List ℕ) (p : SourceParts) : Type 0 where
  pub even : AreEven p
  pub wide : length p.further ≡ length t.names
  pub sources : sources_in p ≡ sources_at t.sources places

-- For the first n lists of source numbers, the columns of these sources.
pub record AreChunkColumns (t : SourceTable) (lists : List (List ℕ)) (n : ℕ) (columns : List SourceParts) : Type 0 where
  pub all : length columns ≡ n
  pub each : (c : ℕ) → c < n → AreColumnsOf t (get_or lists c []) (get_or columns c (no_sources 0))
