-- Why a text has no list of tokens.
use Rattle.std.specs.Prelude.{ℕ}

-- A fault of a text as a list of tokens. The positions are offsets in bytes from 0.
pub data TokenFault : Type 0 where
  BadByte : ℕ → TokenFault
  Literal : ℕ → TokenFault
  TooMany : TokenFault
  Depth : ℕ → TokenFault
