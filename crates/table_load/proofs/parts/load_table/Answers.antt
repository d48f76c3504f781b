use Rattle.table_load.proofs.Joins.{whole_bad, whole_ok}
use Rattle.table_load.proofs.parts.load_table.Goals as goal

pub returns-in-Some-clause-ok : goal.returns-in-Some-clause-ok
returns-in-Some-clause-ok g c =
    let met = g.met.G.Gathering g.world.𝓛 g.world.𝓜 g.world.𝓡 ((λ s x. x), (λ x. x), (λ x. x), λ x. x) in
    whole_ok g.G.Gathering.form g.G.Gathering.made g.G.Gathering.names_of g.G.Gathering.rows_of met.both c.in_order.result c.args.text.now _ _ c.in-Some.ensures.read c.in_order.ensures.names c.in_order.ensures.table

pub returns-in-Some-clause-bad : goal.returns-in-Some-clause-bad
returns-in-Some-clause-bad g c =
    whole_bad g.G.Gathering.form g.G.Gathering.made c.in_order.result c.args.text.now _ _ c.in-Some.ensures.read c.in_order.ensures.bad
