-- Lines of groups, one after the other, are their table.
use Rattle.std.proofs.Common.{◌≡◌, ◌*◌, List, map, length}
use Rattle.std.specs.List.{flat_map}
use Rattle.std.proofs.lemmas.List.{length-map}
use Rattle.answer_rules.specs.declared.rewritten.MergeItem.{MergeItem}
use Rattle.sql_bound.specs.declared.expr.BoundCol.{BoundCol}
use Rattle.answer_rules.specs.Finish.{merged_value}
use Rattle.answer_rules.specs.Parts.{Part}
use Rattle.partial_groups.specs.declared.line.Line.{Line}
use Rattle.partial_groups.specs.Groups.{group_of}
use Rattle.partial_groups.specs.Lines.{line_values}
use Rattle.answer_table.specs.Tables.{table_of}
use Rattle.answer_table.proofs.Tabling.{flat_long, flat_table}

-- ---- lines of groups

pub lines_long : (parts : List Part) (keys : List BoundCol) (items : List MergeItem) (lines : List Line) → length (flat_map (line_values parts keys items) lines) ≡ length lines * length items
lines_long parts keys items lines = flat_long (line_values parts keys items) (length items) (λ l. length-map items (merged_value keys (group_of parts l.group))) lines

pub lines_table : (parts : List Part) (keys : List BoundCol) (items : List MergeItem) (lines : List Line) → table_of (length lines) (length items) (flat_map (line_values parts keys items) lines) ≡ map (line_values parts keys items) lines
lines_table parts keys items lines = flat_table (line_values parts keys items) (length items) (λ l. length-map items (merged_value keys (group_of parts l.group))) lines
