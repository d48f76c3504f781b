use Rattle.std.proofs.Common.{◌≡◌, ◌++◌, length, take}
use Rattle.record_text.specs.Faults.{header_faults_from}
use Rattle.table_load.proofs.header.read_further.Given as goal

abbrev pub invariant-loop-col : goal.invariant-loop-col
invariant-loop-col g l = record {
  names : g.G.Gathering.form.first ++ g.G.Gathering.names_in l.schema ≡ take l.col l.fn.header;
  rest : header_faults_from g.G.Gathering.form l.col l.fn.header ≡ header_faults_from g.G.Gathering.form (length g.G.Gathering.form.first) l.fn.header;
}
