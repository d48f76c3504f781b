-- A Bloom filter of ids with one hash function, as a list of 64-bit words: an id has the bit with the number of its low bits.
use Rattle.std.specs.Prelude.{◌≡◌, ℕ, ◌-◌, ◌/◌, ◌%◌, ◌^◌, ◌==◌, ℤ, Bool, true, List, All, get_or, length}
use Rattle.std.specs.Int.{bit_at, cast_unsigned, w64}
use Rattle.std.specs.Int.Bits.{bit_and}

-- the index, among a power of two of words, of the one that has the bit with a number
abbrev pub word_of : (count n : ℕ) → ℕ
word_of count n = bit_and (n / 64) (count - 1)

-- the bit with a number is 1, as each bit is in a word that is not there
abbrev pub is_set : List ℕ → ℕ → Bool
is_set words n = bit_at (get_or words (word_of (length words) n) (2 ^ 64 - 1)) (n % 64) == 1

-- the bit of the id is 1
abbrev pub may_have : List ℕ → ℤ → Bool
may_have words id = is_set words (cast_unsigned w64 id)

-- the filter has the bits of all of the ids
abbrev pub CoversAll : List ℕ → List ℤ → Type 0
CoversAll words ids = All (λ id. may_have words id ≡ true) ids
