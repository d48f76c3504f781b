-- The line of a script's fault that is known.
use Rattle.std.proofs.Common.{◌≡◌, sym, subst}
use Rattle.sky_io.specs.Sinks.{SinkState, Wrote}
use Rattle.sky_io.specs.declared.sink.Put.{Put}
use Rattle.session_script.specs.declared.fault.ScriptFault.{ScriptFault}
use Rattle.top_call.specs.FaultLines.{script_line}

-- the line of a fault is that of the fault which it is
pub reported_of : (old new : SinkState) (fault known : ScriptFault) (result : Put) → fault ≡ known
    → Wrote old new (script_line known) result → Wrote old new (script_line fault) result
reported_of old new fault known result is wrote = subst (λ f. Wrote old new (script_line f) result) (sym is) wrote
