use Rattle.std.proofs.Common.{◌≢◌, rules}
use Rattle.std.specs.Prelude.{All}
use Rattle.table_load.specs.InParts.{AreParts}
use Rattle.table_load.proofs.Joins.{some_line}
use Rattle.table_load.proofs.parts.read_lines.Goals as goal

pub returns-in-Some-header_of-clause-read : goal.returns-in-Some-header_of-clause-read
returns-in-Some-header_of-clause-read g c =
    let parts : AreParts c.args.text.now c.in-Some.line.now c.in-Some.rest.now = search rules in
    let unquoted : All (λ b. b ≢ 34) c.in-Some.line.now = search rules in
    some_line g.G.Gathering.form g.G.Gathering.names g.G.Gathering.rows c.read_parts.result c.in-Some-header_of.header c.args.text.now c.in-Some.line.now c.in-Some.rest.now parts unquoted c.in-Some-header_of.ensures c.read_parts.ensures.read
