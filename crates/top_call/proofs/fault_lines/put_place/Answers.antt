use Rattle.std.proofs.Common.{subst}
use Rattle.std.specs.Fmt.{decimal}
use Rattle.sky_io.specs.Sinks.{Wrote}
use Rattle.sky_io.proofs.Writes.{wrote_two}
use Rattle.top_call.proofs.fault_lines.put_place.Goals as goal

pub returns-in-Done : goal.returns-in-Done
returns-in-Done g c =
    wrote_two _ _ _ c.args.thing.now _ _ c.in-Done.ensures
    (subst (λ n. Wrote (g.K.Sink.state c.put.new.self) (g.K.Sink.state c.put_count.new.sink) (decimal n) c.put_count.result) c.from.ensures c.put_count.ensures)
