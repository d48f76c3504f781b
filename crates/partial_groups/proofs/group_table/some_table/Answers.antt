use Rattle.std.proofs.Common.{List, subst, ◌≡◌}
use Rattle.std.specs.Prelude.{IfOk}
use Rattle.answer_rules.specs.declared.value.Value.{Value}
use Rattle.partial_groups.specs.declared.line.Line.{Line}
use Rattle.partial_groups.specs.Merging.{IsMergeable}
use Rattle.partial_groups.proofs.Lining.{front_hold, some_lines}
use Rattle.partial_groups.proofs.group_table.some_table.Goals as goal

pub line_table-requires : goal.line_table-requires
line_table-requires c =
    front_hold (λ (l : Line). IsMergeable c.args.keys.now c.args.items.now c.args.tallies.now l.group) c.args.lines.now c.select_nth_unstable-front.result.0.now c.select_nth_unstable-front.result.1.now c.select_nth_unstable-front.result.2.now c.sort_unstable.new.self
    c.requires.may c.select_nth_unstable-front.ensures.permutation c.sort_unstable.ensures.permutation

pub returns : goal.returns
returns c =
    subst (λ (vs : List (List Value)). IfOk c.line_table.result (λ table. table ≡ vs))
    (some_lines c.args.tallies.now c.args.keys.now c.args.items.now c.args.n c.args.lines.now c.select_nth_unstable-front.result.0.now c.select_nth_unstable-front.result.1.now c.select_nth_unstable-front.result.2.now c.sort_unstable.new.self
    c.requires.apart c.select_nth_unstable-front.ensures.permutation c.select_nth_unstable-front.ensures.front_len c.select_nth_unstable-front.ensures.partitioned c.sort_unstable.ensures.permutation c.sort_unstable.ensures.sorted)
    c.line_table.ensures
