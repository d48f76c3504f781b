use Rattle.record_text.proofs.Shortens.{took_copied}
use Rattle.record_text.proofs.record.Record.read_copy.Goals as goal

pub returns : goal.returns
returns c = λ rest still. took_copied c.in-Ok.found _ _ _ rest still (c.in-Ok.ensures.ready still.plain) c.in-Ok.ensures.flexible (c.in-Ok.ensures.reads still.plain still.ready)
