-- Lemmas about texts that are written as sequences of symbols.
use Rattle.std.specs.Prelude.{◌≡◌, IsTrue, Bool, List, map, Ok}
use Rattle.std.specs.List.{list_all}
use Rattle.sql_token.specs.declared.token.Token.{Token}
use Rattle.sql_token.specs.Tokens.{tokens_from}
use Rattle.sql_rules.specs.Symbols.{Symbol, symbols}
use Rattle.sql_rules.specs.PrintedExprs.{Bytes}
use Rattle.print_rules.specs.Spaced.{Spaced, bare_symbol, is_parted, is_printable, text_of}

-- each of the symbols has a text that is read as this symbol
abbrev pub all_printable : List Spaced → Bool
all_printable = list_all (λ s. is_printable s.symbol)

-- the symbols without their spans
abbrev pub bare_symbols : List Spaced → List Symbol
bare_symbols = map (λ s. bare_symbol s.symbol)

-- A text has tokens, and these are the symbols, up to spans.
pub record HasSymbols (text : Bytes) (ps : List Symbol) : Type 0 where
  pub tokens : List Token
  pub are : tokens_from 0 0 text ≡ Ok tokens
  pub same : map bare_symbol (symbols text tokens) ≡ ps

-- if symbols are printable and separated, they are the tokens of the text that they write
abbrev pub WrittenSymbolsAreRead : Type 0
WrittenSymbolsAreRead =
    (ss : List Spaced) → IsTrue (all_printable ss) → IsTrue (is_parted ss)
    → HasSymbols (text_of ss) (bare_symbols ss)
