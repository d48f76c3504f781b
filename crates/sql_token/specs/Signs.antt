-- The signs, written by two bytes or by one.
use Rattle.std.specs.Prelude.{ℕ, ◌&&◌, ◌==◌, if◌then◌else◌, Option, None, Some}
use Rattle.std.specs.Str.{byte}
use Rattle.sql_token.specs.declared.sign.Sign.{Sign}
use Rattle.sql_token.specs.declared.sign.Sign.TheVariants as sign

-- the sign that two bytes write
abbrev pub long_sign : ℕ → ℕ → Option Sign
long_sign a b =
    if (a == byte "<") && (b == byte "=") then Some sign.AtMost
    else if (a == byte ">") && (b == byte "=") then Some sign.AtLeast
    else if (a == byte "<") && (b == byte ">") then Some sign.Differs
    else if (a == byte "!") && (b == byte "=") then Some sign.Differs
    else None

-- the sign that one byte writes
abbrev pub short_sign : ℕ → Option Sign
short_sign a =
    if a == byte "<" then Some sign.Less
    else if a == byte ">" then Some sign.More
    else if a == byte "=" then Some sign.Equal
    else if a == byte "," then Some sign.Comma
    else if a == byte "(" then Some sign.Open
    else if a == byte ")" then Some sign.Close
    else if a == byte "*" then Some sign.Star
    else if a == byte "+" then Some sign.Plus
    else if a == byte "-" then Some sign.Minus
    else if a == byte "." then Some sign.Dot
    else if a == byte ";" then Some sign.Semicolon
    else None
