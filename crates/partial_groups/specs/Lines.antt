-- The lines of an answer of groups, before they are sorted.
use Rattle.std.specs.Prelude.{map, List}
use Rattle.std.specs.declared.cmp.Ordering.{Ordering}
use Rattle.std.specs.Ordering.{int_cmp, nat_cmp, on, then_cmp}
use Rattle.sql_bound.specs.declared.expr.BoundCol.{BoundCol}
use Rattle.answer_rules.specs.declared.rewritten.MergeItem.{MergeItem}
use Rattle.answer_rules.specs.declared.rewritten.MergePlan.{MergePlan}
use Rattle.answer_rules.specs.declared.value.Value.{Value}
use Rattle.answer_rules.specs.Finish.{merge_down, merged_order, merged_value}
use Rattle.answer_rules.specs.Groups.{GroupLine}
use Rattle.answer_rules.specs.Keys.{key_order}
use Rattle.answer_rules.specs.Parts.{Part}
use Rattle.answer_rules.specs.Ranks.{rank_class, rank_value}
use Rattle.partial_groups.specs.declared.line.Line.{Line}
use Rattle.partial_groups.specs.declared.group_entry.GroupEntry.{GroupEntry}
use Rattle.partial_groups.specs.Groups.{group_of}

-- lines are ordered by the sort key of their order key, then by the keys of their groups
abbrev pub line_order : Line → Line → Ordering
line_order = then_cmp (on (λ l. l.class) nat_cmp) (then_cmp (on (λ l. l.value) int_cmp) (on (λ l. l.group.key) key_order))

-- the line of a group, with its sort key
abbrev pub line_by : List Part → List BoundCol → MergePlan → GroupEntry → Line
line_by parts keys merge m = record {
  class = rank_class (merge_down merge.order) (merged_order keys merge.items (group_of parts m) merge.order);
  value = rank_value (merge_down merge.order) (merged_order keys merge.items (group_of parts m) merge.order);
  group = m;
}

-- the values of a group's merged items
abbrev pub group_values : List Part → List BoundCol → List MergeItem → GroupEntry → List Value
group_values parts keys items m = map (merged_value keys (group_of parts m)) items

-- the values of a line
abbrev pub line_values : List Part → List BoundCol → List MergeItem → Line → List Value
line_values parts keys items l = group_values parts keys items l.group

-- the line, with its values
abbrev pub line_of : List Part → List BoundCol → List MergeItem → Line → GroupLine
line_of parts keys items l = record {
  class = l.class;
  value = l.value;
  key = l.group.key;
  values = line_values parts keys items l;
}
