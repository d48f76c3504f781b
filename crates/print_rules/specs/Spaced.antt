-- Texts written as sequences of symbols, each of them directly after the one before it or after one space.
use Rattle.std.specs.Prelude.{Bool, true, false, ◌&&◌, ◌||◌, not, nat_le, if◌then◌else◌}
use Rattle.std.specs.Prelude.{List, [], ◌∷◌, ◌++◌, ℤ, pos, negsuc, codes, is_none}
use Rattle.std.specs.Fmt.{signed_decimal}
use Rattle.std.specs.List.{flat_map}
use Rattle.sql_token.specs.declared.limits.TheConstants.{INT_MOST}
use Rattle.sql_token.specs.declared.keyword.Keyword.{Keyword}
use Rattle.sql_token.specs.declared.keyword.Keyword.TheVariants as keyword
use Rattle.sql_token.specs.declared.sign.Sign.{Sign}
use Rattle.sql_token.specs.declared.sign.Sign.TheVariants as sign
use Rattle.sql_token.specs.Keywords.{keyword_of, spelling}
use Rattle.sql_token.specs.Laws.{is_word}
use Rattle.sql_tree.specs.Bare.{bare_name, nowhere}
use Rattle.sql_tree.specs.declared.cond.AreaKind.TheVariants as area
use Rattle.sql_rules.specs.Symbols.{Mark, OfKeyword, OfSign, Symbol, Named, Number, Adds, Compares, AreaName, Fixed}
use Rattle.sql_rules.specs.PrintedConds.{print_cmp, print_area}
use Rattle.sql_rules.specs.PrintedExprs.{Bytes}

-- A symbol of a text, and whether one space precedes it.
pub record Spaced : Type 0 where
  pub spaced : Bool
  pub symbol : Symbol

-- the printed text of a keyword: in capitals, but for the names of the four sky functions, which are in small letters
abbrev pub keyword_text : Keyword → Bytes
keyword_text keyword.Chord2 = codes "chord2"
keyword_text keyword.AreaBand = print_area area.Band
keyword_text keyword.AreaCap = print_area area.Cap
keyword_text keyword.AreaBox = print_area area.Boxed
keyword_text k = spelling k

-- the printed text of a sign
abbrev pub sign_text : Sign → Bytes
sign_text sign.AtMost = codes "<="
sign_text sign.AtLeast = codes ">="
sign_text sign.Differs = codes "<>"
sign_text sign.Less = codes "<"
sign_text sign.More = codes ">"
sign_text sign.Equal = codes "="
sign_text sign.Comma = codes ","
sign_text sign.Open = codes "("
sign_text sign.Close = codes ")"
sign_text sign.Star = codes "*"
sign_text sign.Plus = codes "+"
sign_text sign.Minus = codes "-"
sign_text sign.Dot = codes "."
sign_text sign.Semicolon = codes ";"

-- the text of a keyword or a sign
abbrev pub mark_text : Mark → Bytes
mark_text (OfKeyword k) = keyword_text k
mark_text (OfSign s) = sign_text s

-- the text of a symbol
abbrev pub symbol_text : Symbol → Bytes
symbol_text (Named n) = n.text
symbol_text (Number n) = signed_decimal n
symbol_text (Adds minus) = if minus then codes "-" else codes "+"
symbol_text (Compares op) = print_cmp op
symbol_text (AreaName kind span) = print_area kind
symbol_text (Fixed m) = mark_text m

-- the text of a symbol after its space, if it has one
abbrev pub spaced_text : Spaced → Bytes
spaced_text s = (if s.spaced then codes " " else []) ++ symbol_text s.symbol

-- the text that symbols write, one after another
abbrev pub text_of : List Spaced → Bytes
text_of = flat_map spaced_text

-- the number is in the range of a token: from 0 to 2^63 - 1
abbrev pub is_int : ℤ → Bool
is_int (pos n) = nat_le n INT_MOST
is_int (negsuc n) = false

-- the keyword is the name of an area function
abbrev pub is_area_word : Keyword → Bool
is_area_word keyword.AreaBand = true
is_area_word keyword.AreaCap = true
is_area_word keyword.AreaBox = true
is_area_word k = false

-- the sign is neither a plus nor a minus nor a comparison operator
abbrev pub is_plain : Sign → Bool
is_plain sign.Comma = true
is_plain sign.Open = true
is_plain sign.Close = true
is_plain sign.Star = true
is_plain sign.Dot = true
is_plain sign.Semicolon = true
is_plain s = false

-- the keyword or sign is a symbol without a span or a value
abbrev pub is_plain_mark : Mark → Bool
is_plain_mark (OfKeyword k) = not (is_area_word k)
is_plain_mark (OfSign s) = is_plain s

-- the symbol has a text that is read as this symbol
abbrev pub is_printable : Symbol → Bool
is_printable (Named n) = is_word n.text && is_none (keyword_of n.text)
is_printable (Number n) = is_int n
is_printable (Fixed m) = is_plain_mark m
is_printable p = true

-- the mark is a keyword, so it is written by a word
abbrev pub is_key : Mark → Bool
is_key (OfKeyword k) = true
is_key (OfSign s) = false

-- the symbol is written by letters, underscores and digits
abbrev pub is_wordlike : Symbol → Bool
is_wordlike (Named n) = true
is_wordlike (Number n) = true
is_wordlike (AreaName kind span) = true
is_wordlike (Fixed m) = is_key m
is_wordlike p = false

-- the symbol is a comparison operator
abbrev pub is_comparison : Symbol → Bool
is_comparison (Compares op) = true
is_comparison p = false

-- the second symbol may directly follow the first
abbrev pub may_touch : Symbol → Symbol → Bool
may_touch p q = not (is_wordlike p && is_wordlike q) && not (is_comparison p && is_comparison q)

-- after a given symbol, each of these follows a space or may touch the one before it
abbrev pub parted_behind : Symbol → List Spaced → Bool
parted_behind p [] = true
parted_behind p (s ∷ ss) = (s.spaced || may_touch p s.symbol) && parted_behind s.symbol ss

-- each symbol but the first follows a space or may touch the one before it
abbrev pub is_parted : List Spaced → Bool
is_parted [] = true
is_parted (s ∷ ss) = parted_behind s.symbol ss

-- a symbol without its span
abbrev pub bare_symbol : Symbol → Symbol
bare_symbol (Named n) = Named (bare_name n)
bare_symbol (AreaName kind span) = AreaName kind nowhere
bare_symbol p = p
