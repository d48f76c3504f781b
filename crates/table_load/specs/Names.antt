-- The names of columns.
use Rattle.std.specs.Prelude.{ℕ, Bool, List, length, nat_lt}

-- the name is not empty
abbrev pub is_filled : List ℕ → Bool
is_filled name = nat_lt 0 (length name)
