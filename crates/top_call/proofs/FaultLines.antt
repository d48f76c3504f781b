-- The line of a fault that is known.
use Rattle.std.proofs.Common.{◌≡◌, sym, subst}
use Rattle.sky_io.specs.Sinks.{SinkState, Wrote}
use Rattle.sky_io.specs.declared.sink.Put.{Put}
use Rattle.table_rules.specs.declared.fault.LoadFault.{LoadFault}
use Rattle.top_call.specs.FaultLines.{load_line}

-- the line of a fault is that of the fault which it is
pub reported_of : (old new : SinkState) (fault known : LoadFault) (result : Put) → fault ≡ known
    → Wrote old new (load_line known) result → Wrote old new (load_line fault) result
reported_of old new fault known result is wrote = subst (λ f. Wrote old new (load_line f) result) (sym is) wrote
