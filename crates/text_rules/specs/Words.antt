-- The bytes of a word: a column's name, and a name or a reserved word of a query.
use Rattle.std.specs.Prelude.{ℕ, Bool, ◌||◌, ◌==◌}
use Rattle.std.specs.Char.{is_ascii_alphabetic, is_ascii_digit}
use Rattle.std.specs.Str.{byte}

-- a word can begin with the byte: it is an ASCII letter or an underscore
abbrev pub begins_word : ℕ → Bool
begins_word b = is_ascii_alphabetic b || (b == byte "_")

-- a word can continue with the byte: it is a letter, an underscore or a digit
abbrev pub continues_word : ℕ → Bool
continues_word b = begins_word b || is_ascii_digit b
