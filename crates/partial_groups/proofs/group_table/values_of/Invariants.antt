use Rattle.std.proofs.Common.{◌≡◌, All, take}
use Rattle.std.specs.List.{flat_map}
use Rattle.partial_groups.specs.Lines.{line_values}
use Rattle.answer_table.specs.Tables.{IsShort}
use Rattle.partial_groups.proofs.group_table.values_of.Given as goal

abbrev pub invariant-loop-line : goal.invariant-loop-line
invariant-loop-line l = record {
  items : l.values.items ≡ flat_map (line_values l.tallies l.keys l.items) (take l.line-index l.lines);
  short : All IsShort l.values.items;
}
