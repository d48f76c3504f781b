use Rattle.std.proofs.Common.{List, ap, map, subst, sym, ◌≡◌, ◌∙◌}
use Rattle.std.specs.List.{All}
use Rattle.std.specs.Prelude.{IfOk}
use Rattle.answer_rules.specs.Rows.{limit_of}
use Rattle.answer_rules.specs.declared.rewritten.MergeItem.{MergeItem}
use Rattle.answer_rules.specs.declared.value.Value.{Value}
use Rattle.partial_groups.specs.declared.line.Line.{Line}
use Rattle.partial_groups.specs.Lines.{line_values}
use Rattle.partial_groups.specs.Merging.{IsMergeable}
use Rattle.partial_groups.proofs.Lining.{first_hold, first_lines}
use Rattle.partial_groups.proofs.group_table.all_table.Goals as goal

pub line_table-requires : goal.line_table-requires
line_table-requires c =
    subst (λ (is : List MergeItem). All (λ l. IsMergeable c.args.keys.now is c.args.tallies.now l.group) c.as_slice.result.now) (sym c.as_slice-2.ensures)
    (subst (λ (ls : List Line). All (λ l. IsMergeable c.args.keys.now c.args.merge.now.items c.args.tallies.now l.group) ls) (sym (c.as_slice.ensures.value ∙ c.cut.ensures))
    (first_hold (λ (l : Line). IsMergeable c.args.keys.now c.args.merge.now.items c.args.tallies.now l.group) (limit_of c.args.merge.now.limit) c.args.lines.items c.sort_unstable.new.self.items c.requires.may c.sort_unstable.ensures.permutation))

pub returns : goal.returns
returns c =
    let answer = first_lines c.args.tallies.now c.args.keys.now c.args.merge.now.items (limit_of c.args.merge.now.limit) c.args.lines.items c.sort_unstable.new.self.items c.requires.apart c.sort_unstable.ensures.permutation c.sort_unstable.ensures.sorted in
    subst (λ (vs : List (List Value)). IfOk c.line_table.result (λ table. table ≡ vs))
    (ap (λ (is : List MergeItem). map (line_values c.args.tallies.now c.args.keys.now is) c.as_slice.result.now) c.as_slice-2.ensures
    ∙ ap (map (line_values c.args.tallies.now c.args.keys.now c.args.merge.now.items)) (c.as_slice.ensures.value ∙ c.cut.ensures) ∙ answer) c.line_table.ensures
