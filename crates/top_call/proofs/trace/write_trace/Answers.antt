use Rattle.std.proofs.Common.{map}
use Rattle.query_ends.specs.Ends.{kind_of}
use Rattle.top_call.specs.Jobs.{Traces}
use Rattle.top_call.proofs.Traces.{trace_written}
use Rattle.top_call.proofs.Writing.{torn_as, written_as}
use Rattle.top_call.proofs.trace.write_trace.Goals as goal

pub returns-in-Failed : goal.returns-in-Failed
returns-in-Failed g c =
    λ workers survey view fit trace. torn_as (Traces workers survey view) (map kind_of c.args.ends.now) c.in-Ok.kinds
    _ _ _ c.in-Ok.ensures fit
    (trace_written workers survey view (map kind_of c.args.ends.now) c.args.journal.now trace) c.in-Failed.ensures

pub returns-in-Done : goal.returns-in-Done
returns-in-Done g c =
    λ workers survey view fit trace. written_as (Traces workers survey view) (map kind_of c.args.ends.now) c.in-Ok.kinds
    _ _ _ _ _ c.in-Ok.ensures fit
    (trace_written workers survey view (map kind_of c.args.ends.now) c.args.journal.now trace)
    c.in-Done.ensures c.send.ensures
