-- Texts of worked examples, and their tokens.
use Rattle.std.specs.Prelude.{ℕ, List, [], ◌∷◌, ◌++◌, pos, codes, replicate}
use Rattle.std.specs.Str.{byte}
use Rattle.sql_token.specs.declared.keyword.Keyword.TheVariants as keyword
use Rattle.sql_token.specs.declared.sign.Sign.TheVariants as sign
use Rattle.sql_token.specs.declared.token.Token.{Token}
use Rattle.sql_token.specs.declared.token.TokenKind.TheVariants as kind
use Rattle.sql_token.specs.Tokens.{token}

-- the tokens of `select x<=-12`
abbrev pub condition_tokens : List Token
condition_tokens =
    token (kind.Keyword keyword.Select) 0 6
    ∷ token kind.Name 7 1
    ∷ token (kind.Sign sign.AtMost) 8 2
    ∷ token (kind.Sign sign.Minus) 10 1
    ∷ token (kind.Int (pos 12)) 11 2
    ∷ []

-- the tokens of `SELECT FROM Object`
abbrev pub no_items : List Token
no_items =
    token (kind.Keyword keyword.Select) 0 6
    ∷ token (kind.Keyword keyword.From) 7 4
    ∷ token kind.Name 12 6
    ∷ []

-- `SELECT ` and the given number of opening brackets
abbrev pub brackets : ℕ → List ℕ
brackets n = codes "SELECT " ++ replicate n (byte "(")

-- `ab`, split into two names
abbrev pub cut_word : List Token
cut_word = token kind.Name 0 1 ∷ token kind.Name 1 1 ∷ []

-- `<=`, split into `<` and `=`
abbrev pub cut_sign : List Token
cut_sign = token (kind.Sign sign.Less) 0 1 ∷ token (kind.Sign sign.Equal) 1 1 ∷ []

-- `12`, split into 1 and 2
abbrev pub cut_int : List Token
cut_int = token (kind.Int (pos 1)) 0 1 ∷ token (kind.Int (pos 2)) 1 1 ∷ []

-- `9223372036854775808`, as an integer of that value
abbrev pub large_int : List Token
large_int = token (kind.Int (pos 9223372036854775808)) 0 19 ∷ []
