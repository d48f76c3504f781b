-- The reserved words, and which of them a word spells.
use Rattle.std.specs.Prelude.{ℕ, Bool, List, [], ◌∷◌, Option, codes, find}
use Rattle.std.specs.Str.{str_eq_ignore_ascii_case}
use Rattle.sql_token.specs.declared.keyword.Keyword.{Keyword}
use Rattle.sql_token.specs.declared.keyword.Keyword.TheVariants as keyword

-- the word in capitals
abbrev pub spelling : Keyword → List ℕ
spelling keyword.Select = codes "SELECT"
spelling keyword.From = codes "FROM"
spelling keyword.Where = codes "WHERE"
spelling keyword.Group = codes "GROUP"
spelling keyword.By = codes "BY"
spelling keyword.Order = codes "ORDER"
spelling keyword.Asc = codes "ASC"
spelling keyword.Desc = codes "DESC"
spelling keyword.Limit = codes "LIMIT"
spelling keyword.As = codes "AS"
spelling keyword.And = codes "AND"
spelling keyword.Or = codes "OR"
spelling keyword.Not = codes "NOT"
spelling keyword.Between = codes "BETWEEN"
spelling keyword.In = codes "IN"
spelling keyword.Is = codes "IS"
spelling keyword.Null = codes "NULL"
spelling keyword.Count = codes "COUNT"
spelling keyword.Sum = codes "SUM"
spelling keyword.Min = codes "MIN"
spelling keyword.Max = codes "MAX"
spelling keyword.Avg = codes "AVG"
spelling keyword.Chord2 = codes "CHORD2"
spelling keyword.AreaBand = codes "AREA_BAND"
spelling keyword.AreaCap = codes "AREA_CAP"
spelling keyword.AreaBox = codes "AREA_BOX"

-- all reserved words
abbrev pub keywords : List Keyword
keywords =
    keyword.Select ∷ keyword.From ∷ keyword.Where ∷ keyword.Group ∷ keyword.By ∷ keyword.Order
    ∷ keyword.Asc ∷ keyword.Desc ∷ keyword.Limit ∷ keyword.As ∷ keyword.And ∷ keyword.Or
    ∷ keyword.Not ∷ keyword.Between ∷ keyword.In ∷ keyword.Is ∷ keyword.Null ∷ keyword.Count
    ∷ keyword.Sum ∷ keyword.Min ∷ keyword.Max ∷ keyword.Avg ∷ keyword.Chord2
    ∷ keyword.AreaBand ∷ keyword.AreaCap ∷ keyword.AreaBox ∷ []

-- the word is the keyword, in capitals or small letters
abbrev pub is_spelled : List ℕ → Keyword → Bool
is_spelled word k = str_eq_ignore_ascii_case word (spelling k)

-- the keyword that a word spells; any other word is a name
unfoldable pub keyword_of : List ℕ → Option Keyword
keyword_of word = find (is_spelled word) keywords
