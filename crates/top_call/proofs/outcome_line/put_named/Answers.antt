use Rattle.std.proofs.Common.{subst}
use Rattle.sky_io.proofs.Writes.{wrote_two}
use Rattle.sky_io.specs.Sinks.{Wrote}
use Rattle.sky_io.specs.declared.sink.Put.TheVariants.{Done}
use Rattle.top_call.proofs.outcome_line.put_named.Goals as goal

pub returns-in-Done : goal.returns-in-Done
returns-in-Done g c =
    wrote_two (g.K.Sink.state c.args.sink.now) (g.K.Sink.state c.put.new.self) (g.K.Sink.state c.put-in-Done.new.self)
    c.args.name.now c.args.rest.now c.put-in-Done.result
    (subst (λ piece. Wrote (g.K.Sink.state c.args.sink.now) (g.K.Sink.state c.put.new.self) piece Done)
    c.as_bytes.ensures.value c.in-Done.ensures)
    c.put-in-Done.ensures
