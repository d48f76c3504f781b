-- Equality of keywords, and of signs.
use Rattle.std.specs.Prelude.{ℕ, Bool, nat_eq}
use Rattle.sql_token.specs.declared.keyword.Keyword.{Keyword}
use Rattle.sql_token.specs.declared.keyword.Keyword.TheVariants as keyword
use Rattle.sql_token.specs.declared.sign.Sign.{Sign}
use Rattle.sql_token.specs.declared.sign.Sign.TheVariants as sign
use Rattle.sql_rules.specs.Symbols.{Mark, OfKeyword, OfSign}

-- the number of a keyword in the list of keywords
abbrev pub keyword_number : Keyword → ℕ
keyword_number keyword.Select = 0
keyword_number keyword.From = 1
keyword_number keyword.Where = 2
keyword_number keyword.Group = 3
keyword_number keyword.By = 4
keyword_number keyword.Order = 5
keyword_number keyword.Asc = 6
keyword_number keyword.Desc = 7
keyword_number keyword.Limit = 8
keyword_number keyword.As = 9
keyword_number keyword.And = 10
keyword_number keyword.Or = 11
keyword_number keyword.Not = 12
keyword_number keyword.Between = 13
keyword_number keyword.In = 14
keyword_number keyword.Is = 15
keyword_number keyword.Null = 16
keyword_number keyword.Count = 17
keyword_number keyword.Sum = 18
keyword_number keyword.Min = 19
keyword_number keyword.Max = 20
keyword_number keyword.Avg = 21
keyword_number keyword.Chord2 = 22
keyword_number keyword.AreaBand = 23
keyword_number keyword.AreaCap = 24
keyword_number keyword.AreaBox = 25

-- the number of a sign in the list of signs, which continues that of the keywords
abbrev pub sign_number : Sign → ℕ
sign_number sign.AtMost = 26
sign_number sign.AtLeast = 27
sign_number sign.Differs = 28
sign_number sign.Less = 29
sign_number sign.More = 30
sign_number sign.Equal = 31
sign_number sign.Comma = 32
sign_number sign.Open = 33
sign_number sign.Close = 34
sign_number sign.Star = 35
sign_number sign.Plus = 36
sign_number sign.Minus = 37
sign_number sign.Dot = 38
sign_number sign.Semicolon = 39

-- the number of a mark
abbrev pub mark_number : Mark → ℕ
mark_number (OfKeyword k) = keyword_number k
mark_number (OfSign s) = sign_number s

-- the marks are equal
abbrev pub same_mark : Mark → Mark → Bool
same_mark a b = nat_eq (mark_number a) (mark_number b)
