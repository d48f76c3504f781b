-- The line of a journal's fault that is known.
use Rattle.std.proofs.Common.{◌≡◌, sym, subst}
use Rattle.sky_io.specs.Sinks.{SinkState, Wrote}
use Rattle.sky_io.specs.declared.sink.Put.{Put}
use Rattle.scan_history.specs.declared.fault.HistoryFault.{HistoryFault}
use Rattle.top_call.specs.FaultLines.{journal_line}

-- the line of a fault is that of the fault which it is
pub reported_of : (old new : SinkState) (fault known : HistoryFault) (result : Put) → fault ≡ known
    → Wrote old new (journal_line known) result → Wrote old new (journal_line fault) result
reported_of old new fault known result is wrote = subst (λ f. Wrote old new (journal_line f) result) (sym is) wrote
