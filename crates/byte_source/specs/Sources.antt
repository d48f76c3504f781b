-- The observable state of a source of bytes, and the effect of a read on it.
use Rattle.std.specs.Prelude.{◌≡◌, ℕ, List, [], ◌∷◌, ◌++◌, Option, None, option_map}
use Rattle.sky_io.specs.Sinks.{Rose}
use Rattle.byte_source.specs.declared.source.Next.{Next}
use Rattle.byte_source.specs.declared.source.Next.TheVariants.{Byte, End, Failed}

-- The observable state of a source: the bytes that are left, if they are observable; how often it has failed.
pub record SourceState : Type 0 where
  pub left : Option (List ℕ)
  pub faults : ℕ

-- if what is left is observable, it has lost these bytes at its beginning
abbrev pub Gave : Option (List ℕ) → List ℕ → Option (List ℕ) → Type 0
Gave old bytes new = old ≡ option_map (λ rest. bytes ++ rest) new

-- if what is left is observable, nothing is
abbrev pub IsAtEnd : Option (List ℕ) → Type 0
IsAtEnd left = left ≡ option_map (λ rest. []) left

-- A read of the next byte.
abbrev pub Took : (old new : SourceState) → Next → Type 0
Took old new (Byte b) = Gave old.left (b ∷ []) new.left × (new.faults ≡ old.faults)
Took old new End = IsAtEnd old.left × (new ≡ old)
Took old new Failed = (new.left ≡ old.left) × Rose old.faults new.faults

-- a stream of which nothing was read: what is left is not observable, and nothing has failed
abbrev pub unread_stream : SourceState
unread_stream = record { left = None; faults = 0 }
