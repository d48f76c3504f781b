use Rattle.std.proofs.Common.{◌≡◌, ◌≤◌, length, take}
use Rattle.table_rules.specs.Records.{faults_of_header}
use Rattle.table_load.proofs.Names.{header_left}
use Rattle.table_load.proofs.header.check_names.Given as goal

abbrev pub invariant-loop-col : goal.invariant-loop-col
invariant-loop-col g l = record {
  long : l.col ≤ length l.fn.header;
  names : take l.col g.G.Gathering.form.first ≡ take l.col l.fn.header;
  rest : header_left g.G.Gathering.form l.fn.header l.col ≡ faults_of_header g.G.Gathering.form l.fn.header;
}
