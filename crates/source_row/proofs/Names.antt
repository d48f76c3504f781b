-- The number of a name among the columns of the source table.
use Rattle.std.proofs.Common.{◌≡◌, not, ℕ, List, None}
use Rattle.std.specs.List.{list_any, position_from}
use Rattle.std.specs.Option.{is_none}
use Rattle.std.specs.Str.{bytes_eq}
use Rattle.sky_row.proofs.Names.{free_if_none, further_place}
use Rattle.source_rules.specs.SourceNames.{first_source_names, source_column_names, source_column_of}

-- a name that neither of the first two columns has is searched for after them
pub column_behind : (names : List (List ℕ)) (name : List ℕ) → None ≡ position_from (bytes_eq name) 0 first_source_names
    → position_from (bytes_eq name) 2 names ≡ source_column_of names name
column_behind names name h = further_place first_source_names names name h

-- no column has the name if none is found
pub free_by_place : (names : List (List ℕ)) (name : List ℕ)
    → is_none (source_column_of names name) ≡ not (list_any (bytes_eq name) (source_column_names names))
free_by_place names name = free_if_none (source_column_names names) name
