use Rattle.scan_rules.proofs.Scan.{take_serves}
use Rattle.scan_rules.proofs.laws.a_take_serves_every_query_that_needs_its_chunk.Goals as goal

pub returns : goal.returns
returns c ring before rest seat ticket chunk queries q run needs = take_serves before rest seat ticket chunk queries q run needs
