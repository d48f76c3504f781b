use Rattle.csv.specs.Reading.{default_config, records, strip_bom}
use Rattle.record_text.proofs.Firsts.{bad_by}
use Rattle.record_text.proofs.Steps.{no_record, ok_by, reads_on, right_header, stop_by, wrong_header}
use Rattle.table_load.proofs.table.load_alone.Goals as goal

pub returns-then-not-found-clause-bad : goal.returns-then-not-found-clause-bad
returns-then-not-found-clause-bad g c =
    let all = records default_config (strip_bom c.args.text.now) in
    no_record g.G.Gathering.form g.G.Gathering.made c.read_next.new.reader c.read_next.new.fields all c.in-Ok.found c.if-not-found.true (c.in-Ok.ensures all c.reader_of-reader.ensures)

pub rows_under-requires-clause-gives : goal.rows_under-requires-clause-gives
rows_under-requires-clause-gives g c =
    let all = records default_config (strip_bom c.args.text.now) in
    reads_on c.read_next.new.reader c.read_next.new.fields all c.in-Ok.found c.if-not-found.false (c.in-Ok.ensures all c.reader_of-reader.ensures)

pub returns-in-Ok-read_header-clause-ok : goal.returns-in-Ok-read_header-clause-ok
returns-in-Ok-read_header-clause-ok g c =
    let all = records default_config (strip_bom c.args.text.now) in
    let header = c.read_next.new.fields in
    let took = c.in-Ok.ensures all c.reader_of-reader.ensures in
    let right = c.in-Ok-read_header.ensures in
    ok_by c.rows_under.result _ _ (λ rows h. right_header g.G.Gathering.form g.G.Gathering.made c.read_next.new.reader header (g.G.Gathering.names_in c.in-Ok-read_header.schema) all c.in-Ok.found _ c.if-not-found.false took right.none right.long right.ok h) c.rows_under.ensures.ok

pub returns-in-Ok-read_header-clause-bad : goal.returns-in-Ok-read_header-clause-bad
returns-in-Ok-read_header-clause-bad g c =
    let all = records default_config (strip_bom c.args.text.now) in
    let header = c.read_next.new.fields in
    let took = c.in-Ok.ensures all c.reader_of-reader.ensures in
    let right = c.in-Ok-read_header.ensures in
    bad_by c.rows_under.result _ _ (λ f h. right_header g.G.Gathering.form g.G.Gathering.made c.read_next.new.reader header (g.G.Gathering.names_in c.in-Ok-read_header.schema) all c.in-Ok.found _ c.if-not-found.false took right.none right.long right.ok h) c.rows_under.ensures.bad

pub returns-in-Err-clause-bad : goal.returns-in-Err-clause-bad
returns-in-Err-clause-bad g c =
    let all = records default_config (strip_bom c.args.text.now) in
    let took = c.in-Ok.ensures all c.reader_of-reader.ensures in
    stop_by c.in-Err.stop _ _ (λ f h. wrong_header g.G.Gathering.form g.G.Gathering.made c.read_next.new.reader c.read_next.new.fields all c.in-Ok.found f c.if-not-found.false took h) c.in-Err.ensures.bad
