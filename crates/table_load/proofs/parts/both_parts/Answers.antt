use Rattle.table_load.proofs.Joins.{some_both}
use Rattle.table_load.proofs.parts.both_parts.Goals as goal

pub returns-clause-read : goal.returns-clause-read
returns-clause-read g c =
    some_both g.G.Gathering.form g.met.G.Gathering.numberless g.G.Gathering.names g.G.Gathering.rows c.joined.result c.args.header.now c.args.text.now c.args.front.now c.args.behind.now c.args.first c.args.second c.requires.parts c.requires.first c.requires.second c.joined.ensures.names c.joined.ensures.few c.joined.ensures.rows
