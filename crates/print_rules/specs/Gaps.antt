-- A printed query as its symbols, and the spaces between them.
use Rattle.std.specs.Prelude.{◌≡◌, Bool, true, false, ◌&&◌, ◌||◌, not, List, [], ◌∷◌}
use Rattle.sql_token.specs.declared.keyword.Keyword.{Keyword}
use Rattle.sql_token.specs.declared.keyword.Keyword.TheVariants as keyword
use Rattle.sql_token.specs.declared.sign.Sign.TheVariants as sign
use Rattle.sql_tree.specs.Bare.{bare}
use Rattle.sql_tree.specs.declared.query.Query.{Query}
use Rattle.sql_rules.specs.Printed.{printed}
use Rattle.sql_rules.specs.Queries.{FreeWords, spell_query}
use Rattle.sql_rules.specs.Spelling.{Symbols}
use Rattle.sql_rules.specs.Symbols.{Symbol, Fixed, OfKeyword, OfSign}
use Rattle.print_rules.specs.Spaced.{Spaced, text_of, may_touch}

-- the keyword is not the name of a function
abbrev pub is_lone_key : Keyword → Bool
is_lone_key keyword.Count = false
is_lone_key keyword.Sum = false
is_lone_key keyword.Min = false
is_lone_key keyword.Max = false
is_lone_key keyword.Avg = false
is_lone_key keyword.Chord2 = false
is_lone_key keyword.AreaBand = false
is_lone_key keyword.AreaCap = false
is_lone_key keyword.AreaBox = false
is_lone_key k = true

-- the symbol is a keyword, and not the name of a function
abbrev pub is_lone : Symbol → Bool
is_lone (Fixed (OfKeyword k)) = is_lone_key k
is_lone p = false

-- the symbol is an opening bracket
abbrev pub is_open : Symbol → Bool
is_open (Fixed (OfSign sign.Open)) = true
is_open p = false

-- the symbol is a closing bracket
abbrev pub is_close : Symbol → Bool
is_close (Fixed (OfSign sign.Close)) = true
is_close p = false

-- One space is between the two symbols in three cases. The first is a keyword, and the second is not a closing bracket.
-- Or the second is a keyword, and the first is not an opening bracket. Or they would run together: two words, such as a
-- table and its alias, or two comparison operators. A keyword here is not the name of a function. In all other cases
-- nothing is between them: not around commas, brackets, dots and operators, nor between the name of a function and its
-- bracket.
unfoldable pub gap : Symbol → Symbol → Bool
gap p q = (is_lone p && not (is_close q)) || (is_lone q && not (is_open p)) || not (may_touch p q)

-- the symbols after a given one, each with its space
abbrev pub spaced_behind : Symbol → Symbols → List Spaced
spaced_behind p [] = []
spaced_behind p (q ∷ qs) = record { spaced = gap p q; symbol = q } ∷ spaced_behind q qs

-- symbols, each after a space exactly if there is a gap between it and the one before it
abbrev pub with_gaps : Symbols → List Spaced
with_gaps [] = []
with_gaps (p ∷ ps) = record { spaced = false; symbol = p } ∷ spaced_behind p ps

-- none of the optional words: a table's alias has no AS, an order no ASC, and no semicolon ends the query
abbrev pub plainly : FreeWords
plainly = record { first_as = false; second_as = false; asc = false; semicolon = false }

-- the symbols of a query as it is spelled without those words, and without the minus before a zero in a list of
-- integers; each is after a space exactly if there is a gap
unfoldable pub spaced_query : Query → List Spaced
spaced_query q = with_gaps (spell_query plainly (bare q))

-- the printed text of a query is the text that these symbols write
abbrev pub APrintedQueryIsItsSymbols : Type 0
APrintedQueryIsItsSymbols = (q : Query) → text_of (spaced_query q) ≡ printed q
