use Rattle.std.proofs.Common.{◌≡◌, ◌++◌, drop, map, true}
use Rattle.std.specs.List.{list_all}
use Rattle.text_rules.specs.Numbers.{int_of}
use Rattle.table_rules.specs.Objects.{is_further}
use Rattle.record_text.specs.Faults.{faults_from}
use Rattle.record_text.proofs.fields.read_cells.Given as goal

abbrev pub invariant-loop-col : goal.invariant-loop-col
invariant-loop-col l = record {
  rest : faults_from l.fn.row l.col l.fn.fields ≡ faults_from l.fn.row l.fn.first l.fn.fields;
  said : l.cells.items ++ map int_of (drop l.col l.fn.fields) ≡ map int_of (drop l.fn.first l.fn.fields);
  range : list_all is_further l.cells.items ≡ true;
}
