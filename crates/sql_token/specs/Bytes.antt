-- The bytes of SQL text that are blanks.
use Rattle.std.specs.Prelude.{ℕ, Bool, ◌||◌, ◌==◌}
use Rattle.std.specs.Str.{byte}

-- the byte is a space, a tab, a line feed or a carriage return
abbrev pub is_blank : ℕ → Bool
is_blank b = (b == byte " ") || (b == byte "\t") || (b == byte "\n") || (b == byte "\r")
