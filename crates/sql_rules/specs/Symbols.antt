-- The symbols of the grammar. A symbol is a token as the grammar sees it: a name with its text and its span, the name
-- of an area function with its span, any other token without its span.
use Rattle.std.specs.Prelude.{ℕ, ℤ, Bool, true, false, List, map, slice_range}
use Rattle.sql_token.specs.declared.keyword.Keyword.{Keyword}
use Rattle.sql_token.specs.declared.keyword.Keyword.TheVariants as keyword
use Rattle.sql_token.specs.declared.sign.Sign.{Sign}
use Rattle.sql_token.specs.declared.sign.Sign.TheVariants as sign
use Rattle.sql_token.specs.declared.token.Span.{Span}
use Rattle.sql_token.specs.declared.token.Token.{Token}
use Rattle.sql_token.specs.declared.token.TokenKind.{TokenKind}
use Rattle.sql_token.specs.declared.token.TokenKind.TheVariants as kind
use Rattle.sql_tree.specs.declared.cond.AreaKind.{AreaKind}
use Rattle.sql_tree.specs.declared.cond.AreaKind.TheVariants as area
use Rattle.sql_tree.specs.declared.cond.Cmp.{Cmp}
use Rattle.sql_tree.specs.declared.cond.Cmp.TheVariants as cmp
use Rattle.sql_tree.specs.declared.name.Name.{Name}

-- A token with a fixed text: a keyword or a sign.
pub data Mark : Type 0 where
  OfKeyword : Keyword → Mark
  OfSign : Sign → Mark

-- A token as the grammar sees it. `Adds` is a minus if it is true, and else a plus.
pub data Symbol : Type 0 where
  Named : Name → Symbol
  Number : ℤ → Symbol
  Adds : Bool → Symbol
  Compares : Cmp → Symbol
  AreaName : AreaKind → Span → Symbol
  Fixed : Mark → Symbol

-- a symbol that is a keyword
abbrev pub of_keyword : Keyword → Symbol
of_keyword k = Fixed (OfKeyword k)

-- a symbol that is a sign
abbrev pub of_sign : Sign → Symbol
of_sign s = Fixed (OfSign s)

-- the symbol of a keyword: that of an area function keeps its span
abbrev pub keyword_symbol : Keyword → Span → Symbol
keyword_symbol keyword.AreaBand span = AreaName area.Band span
keyword_symbol keyword.AreaCap span = AreaName area.Cap span
keyword_symbol keyword.AreaBox span = AreaName area.Boxed span
keyword_symbol k span = of_keyword k

-- the symbol of a sign
abbrev pub sign_symbol : Sign → Symbol
sign_symbol sign.Plus = Adds false
sign_symbol sign.Minus = Adds true
sign_symbol sign.Equal = Compares cmp.Equal
sign_symbol sign.Differs = Compares cmp.Differs
sign_symbol sign.Less = Compares cmp.Less
sign_symbol sign.AtMost = Compares cmp.AtMost
sign_symbol sign.More = Compares cmp.More
sign_symbol sign.AtLeast = Compares cmp.AtLeast
sign_symbol s = of_sign s

-- the name spelled by the bytes of a span
abbrev pub name_of : List ℕ → Span → Name
name_of text span = record { text = slice_range text span.from span.to; span = span }

-- the symbol of a token of the given kind and span
abbrev pub kind_symbol : List ℕ → TokenKind → Span → Symbol
kind_symbol text (kind.Keyword k) span = keyword_symbol k span
kind_symbol text kind.Name span = Named (name_of text span)
kind_symbol text (kind.Int n) span = Number n
kind_symbol text (kind.Sign s) span = sign_symbol s

-- the symbol of a token of a text
abbrev pub symbol : List ℕ → Token → Symbol
symbol text t = kind_symbol text t.kind t.span

-- the symbols of the tokens of a text
abbrev pub symbols : List ℕ → List Token → List Symbol
symbols text ts = map (symbol text) ts
