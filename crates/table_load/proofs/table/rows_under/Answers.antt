use Rattle.std.proofs.Common.{◌∙◌}
use Rattle.record_text.proofs.Firsts.{bad_by}
use Rattle.record_text.proofs.Steps.{read_again, read_fault, stop_by, under_ok}
use Rattle.table_load.proofs.table.rows_under.Goals as goal

pub returns-in-Ok-read_rest-clause-ok : goal.returns-in-Ok-read_rest-clause-ok
returns-in-Ok-read_rest-clause-ok g c =
    let named = c.in-Ok.ensures.names in
    let read = rw named at c.in-Ok-read_rest.ensures.ok in
    under_ok g.G.Gathering.form g.G.Gathering.made g.G.Gathering.names_of g.G.Gathering.rows_of g.met.G.Gathering.both c.in_order.result _ (g.G.Gathering.names_in c.args.schema) (g.G.Gathering.names c.read_rest.new.gathered) c.args.reader (g.G.Gathering.rows c.read_rest.new.gathered) read (c.in-Ok-read_rest.ensures.names ∙ named) c.in_order.ensures.names c.in_order.ensures.table

pub returns-in-Ok-read_rest-clause-bad : goal.returns-in-Ok-read_rest-clause-bad
returns-in-Ok-read_rest-clause-bad g c =
    let read = rw c.in-Ok.ensures.names at c.in-Ok-read_rest.ensures.ok in
    bad_by c.in_order.result _ _ (λ f again. λ all still. read_again g.G.Gathering.form g.G.Gathering.made _ (g.G.Gathering.names_in c.args.schema) all (g.G.Gathering.rows c.read_rest.new.gathered) _ f (read all still) again) c.in_order.ensures.bad

pub returns-in-Err-Bad-clause-bad : goal.returns-in-Err-Bad-clause-bad
returns-in-Err-Bad-clause-bad g c =
    let read = rw (c.in-Ok.ensures.names, c.in-Err-Bad.field-0-is) at c.in-Err-Bad.ensures.bad in
    let first = rw c.in-Err-Bad.fault-is at c.first_fault.ensures in
    stop_by c.first_fault.result _ _ (λ f first. λ all still. read_fault g.G.Gathering.form g.G.Gathering.made _ (g.G.Gathering.names_in c.args.schema) all (g.G.Gathering.rows c.read_rest.new.gathered) c.in-Err-Bad.fault f (read all still) first) first
