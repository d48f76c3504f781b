-- A text that is written is written in any form of it.
use Rattle.std.proofs.Common.{◌≡◌, subst}
use Rattle.sky_io.specs.Sinks.{SinkState, Wrote}
use Rattle.sky_io.specs.declared.sink.Put.{Put}
use Rattle.sql_rules.specs.PrintedExprs.{Bytes}

pub wrote_as : (old new : SinkState) (text same : Bytes) (result : Put) → text ≡ same → Wrote old new text result
    → Wrote old new same result
wrote_as old new text same result is wrote = subst (λ t. Wrote old new t result) is wrote
