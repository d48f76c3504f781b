use Rattle.std.proofs.Common.{codes}
use Rattle.sky_io.proofs.Writes.{wrote_one, wrote_two}
use Rattle.top_call.specs.FaultLines.{place}
use Rattle.top_call.proofs.journal_check.put_tally.Goals as goal

pub returns-in-Failed : goal.returns-in-Failed
returns-in-Failed g c = wrote_one _ _ (place (codes "ok: ") c.args.tally.entries) _ c.in-Failed.ensures

pub returns-in-Done : goal.returns-in-Done
returns-in-Done g c =
    wrote_two _ _ _ (place (codes "ok: ") c.args.tally.entries) _ _ c.in-Done.ensures c.put_parts.ensures
