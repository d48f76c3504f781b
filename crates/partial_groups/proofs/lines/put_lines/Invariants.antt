use Rattle.std.proofs.Common.{◌≡◌, ◌++◌, ◌+◌, ◌≤◌, All, length, map, vec_len, vec_capacity}
use Rattle.std.specs.Vec.Iter.{into_iter_items}
use Rattle.partial_groups.specs.Lines.{line_by}
use Rattle.partial_groups.specs.Merging.{IsMergeable}
use Rattle.partial_groups.proofs.lines.put_lines.Given as goal

abbrev pub invariant-loop-group : goal.invariant-loop-group
invariant-loop-group l = record {
  items : l.lines.items ≡ l.initial.lines.items ++ map (line_by l.tallies l.keys l.merge) l.yielded;
  all : l.fn.groups.items ≡ l.yielded ++ into_iter_items l.group-iterator;
  room : vec_len l.lines + length (into_iter_items l.group-iterator) ≤ vec_capacity l.lines;
  may : All (IsMergeable l.keys l.merge.items l.tallies) (into_iter_items l.group-iterator);
}
