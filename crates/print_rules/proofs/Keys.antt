-- The words of keywords are read as these keywords.
use Rattle.std.proofs.Common.{◌≡◌, refl, true, Some}
use Rattle.sql_token.specs.declared.keyword.Keyword.{Keyword}
use Rattle.sql_token.specs.declared.keyword.Keyword.TheVariants as keyword
use Rattle.sql_token.specs.Keywords.{keyword_of}
use Rattle.sql_token.specs.Laws.{is_word}
use Rattle.sql_tree.specs.declared.cond.AreaKind.{AreaKind}
use Rattle.sql_tree.specs.declared.cond.AreaKind.TheVariants as area
use Rattle.sql_rules.specs.PrintedConds.{print_area}
use Rattle.sql_rules.specs.PrintedExprs.{Bytes}
use Rattle.print_rules.specs.Spaced.{keyword_text}

-- The bytes are a word that is the keyword.
pub record IsKeyword (bytes : Bytes) (k : Keyword) : Type 0 where
  pub word : is_word bytes ≡ true
  pub is : keyword_of bytes ≡ Some k

-- the keyword of an area function
abbrev pub area_keyword : AreaKind → Keyword
area_keyword area.Band = keyword.AreaBand
area_keyword area.Cap = keyword.AreaCap
area_keyword area.Boxed = keyword.AreaBox

-- the word of an area function is its keyword
pub area_is_keyword : (kind : AreaKind) → IsKeyword (print_area kind) (area_keyword kind)
unfolding keyword_of
area_is_keyword area.Band = record { word = refl; is = refl }
area_is_keyword area.Cap = record { word = refl; is = refl }
area_is_keyword area.Boxed = record { word = refl; is = refl }

-- the printed word of a keyword is the keyword
pub is_keyword : (k : Keyword) → IsKeyword (keyword_text k) k
unfolding keyword_of
is_keyword keyword.Select = record { word = refl; is = refl }
is_keyword keyword.From = record { word = refl; is = refl }
is_keyword keyword.Where = record { word = refl; is = refl }
is_keyword keyword.Group = record { word = refl; is = refl }
is_keyword keyword.By = record { word = refl; is = refl }
is_keyword keyword.Order = record { word = refl; is = refl }
is_keyword keyword.Asc = record { word = refl; is = refl }
is_keyword keyword.Desc = record { word = refl; is = refl }
is_keyword keyword.Limit = record { word = refl; is = refl }
is_keyword keyword.As = record { word = refl; is = refl }
is_keyword keyword.And = record { word = refl; is = refl }
is_keyword keyword.Or = record { word = refl; is = refl }
is_keyword keyword.Not = record { word = refl; is = refl }
is_keyword keyword.Between = record { word = refl; is = refl }
is_keyword keyword.In = record { word = refl; is = refl }
is_keyword keyword.Is = record { word = refl; is = refl }
is_keyword keyword.Null = record { word = refl; is = refl }
is_keyword keyword.Count = record { word = refl; is = refl }
is_keyword keyword.Sum = record { word = refl; is = refl }
is_keyword keyword.Min = record { word = refl; is = refl }
is_keyword keyword.Max = record { word = refl; is = refl }
is_keyword keyword.Avg = record { word = refl; is = refl }
is_keyword keyword.Chord2 = record { word = refl; is = refl }
is_keyword keyword.AreaBand = record { word = refl; is = refl }
is_keyword keyword.AreaCap = record { word = refl; is = refl }
is_keyword keyword.AreaBox = record { word = refl; is = refl }
