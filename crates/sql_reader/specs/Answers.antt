-- The results of the code's readers, compared with reading on lists. An allocation failure can take the place of any
-- result.
use Rattle.std.specs.Prelude.{◌≡◌, ⊤, List, Option, None, Some, Result, Ok, Err}
use Rattle.sql_rules.specs.Symbols.{Mark, Symbol}
use Rattle.sql_rules.specs.Readers.{Answer, Got, Stuck}
use Rattle.sql_reader.specs.declared.ahead.ReadStop.{ReadStop}
use Rattle.sql_reader.specs.declared.ahead.ReadStop.TheVariants.{Memory, Syntax}

-- nothing could be read, or memory ran out
abbrev pub Fails : {A : Type 0} → Answer A → ReadStop → Type 0
Fails answer Memory = ⊤
Fails answer Syntax = answer ≡ Stuck

-- the reader returns the value and the rest, or that nothing could be read, or is out of memory
abbrev pub Gives : {A : Type 0} → Answer A → Result (A × List Symbol) ReadStop → Type 0
Gives answer (Ok x) = answer ≡ Got x.0 x.1
Gives answer (Err why) = Fails answer why

-- a reader that does not allocate returns the value and the rest, or that nothing could be read
abbrev pub Shows : {A : Type 0} → Answer A → Option (A × List Symbol) → Type 0
Shows answer (Some x) = answer ≡ Got x.0 x.1
Shows answer None = answer ≡ Stuck

-- a reader of a given mark returns the rest after the mark, or that it is not first
abbrev pub Passes : Mark → Answer Mark → Option (List Symbol) → Type 0
Passes m answer (Some rest) = answer ≡ Got m rest
Passes m answer None = answer ≡ Stuck

-- the rest after a value, or None if nothing could be read
abbrev pub rest_of : {A : Type 0} → Answer A → Option (List Symbol)
rest_of (Got x rest) = Some rest
rest_of Stuck = None

-- what was read before, paired with what is read now
abbrev pub beside : {T U : Type 0} → T → Result U ReadStop → Result (T × U) ReadStop
beside held (Ok found) = Ok (held, found)
beside held (Err why) = Err why
