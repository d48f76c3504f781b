-- Sources as columns: a list of values for each column, in which equal indexes belong to the same source.
use Rattle.std.specs.Prelude.{◌≡◌, ℕ, ◌<◌, ◌≤◌, List, [], ◌∷◌, ◌++◌, length, map, replicate, get_or, All, Option, None, ℤ, pos}
use Rattle.std.specs.List.{range_with_len}
use Rattle.table_rules.specs.declared.limits.TheConstants.{FURTHER_COLUMNS_MOST, ROWS_MOST}
use Rattle.column_lists.specs.Columns.{cells_behind, cells_in, columns_appended}
use Rattle.source_rules.specs.Sources.{Source, IsSource, source_cell}

-- The columns of sources: their ids, those of their objects, and a list for each extra column.
pub record SourceParts : Type 0 where
  pub ids : List ℤ
  pub objects : List ℤ
  pub further : List (List (Option ℤ))

-- the source with number i
abbrev pub source_at : SourceParts → ℕ → Source
source_at p i = record {
  id = get_or p.ids i (pos 0);
  object = get_or p.objects i (pos 0);
  further = cells_in p.further i;
}

-- all sources, in the order of their numbers
abbrev pub sources_in : SourceParts → List Source
sources_in p = map (source_at p) (range_with_len 0 (length p.ids))

-- the given number of extra columns without sources
abbrev pub no_sources : ℕ → SourceParts
no_sources width = record { ids = []; objects = []; further = replicate width [] }

-- the columns with one more source
abbrev pub source_behind : SourceParts → Source → SourceParts
source_behind p s = record {
  ids = p.ids ++ s.id ∷ [];
  objects = p.objects ++ s.object ∷ [];
  further = cells_behind p.further s.further;
}

-- the columns with the sources of others after their own
abbrev pub parts_appended : SourceParts → SourceParts → SourceParts
parts_appended p q = record {
  ids = p.ids ++ q.ids;
  objects = p.objects ++ q.objects;
  further = columns_appended p.further q.further;
}

-- the columns of the sources with these numbers
abbrev pub parts_at : SourceParts → List ℕ → SourceParts
parts_at p places = record {
  ids = map (λ place. get_or p.ids place (pos 0)) places;
  objects = map (λ place. get_or p.objects place (pos 0)) places;
  further = map (λ column. map (λ place. get_or column place None) places) p.further;
}

-- Columns of one length.
pub record AreEven (p : SourceParts) : Type 0 where
  pub objects : length p.objects ≡ length p.ids
  pub further : All (λ column. length column ≡ length p.ids) p.further

-- Columns under these names, whose sources are within the limits of their columns.
pub record AreSourceColumns (names : List (List ℕ)) (p : SourceParts) : Type 0 where
  pub few_names : length names ≤ FURTHER_COLUMNS_MOST
  pub few : length p.ids ≤ ROWS_MOST
  pub wide : length p.further ≡ length names
  pub even : AreEven p
  pub rows : (i : ℕ) → i < length p.ids → IsSource (source_at p i)

-- the values that sources have in a column
abbrev pub source_column : List Source → ℕ → List (Option ℤ)
source_column sources col = map (λ s. source_cell s col) sources

-- a placeholder for an index out of range
abbrev pub no_source : Source
no_source = record { id = pos 0; object = pos 0; further = [] }

-- the sources with these numbers
abbrev pub sources_at : List Source → List ℕ → List Source
sources_at sources places = map (λ place. get_or sources place no_source) places
