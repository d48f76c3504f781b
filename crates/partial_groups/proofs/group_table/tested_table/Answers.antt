use Rattle.std.proofs.Common.{List, map, subst, sym, ap, ◌≡◌, ◌∙◌, ℕ, Option, Some}
use Rattle.std.specs.List.{All}
use Rattle.std.specs.Prelude.{IfOk}
use Rattle.answer_rules.specs.Finish.{merged_line}
use Rattle.answer_rules.specs.InOrder.{first, in_order}
use Rattle.answer_rules.specs.Groups.{GroupLine, group_order}
use Rattle.answer_rules.specs.Keeps.{AreApart}
use Rattle.answer_rules.specs.Rows.{limit_of}
use Rattle.answer_rules.specs.declared.rewritten.MergeItem.{MergeItem}
use Rattle.partial_groups.specs.Groups.{group_of}
use Rattle.partial_groups.specs.Lines.{line_of}
use Rattle.partial_groups.specs.Merging.{IsMergeable}
use Rattle.partial_groups.proofs.Lining.{made_apart, made_are, made_mergeable}
use Rattle.partial_groups.proofs.group_table.tested_table.Goals as goal

pub all_table-requires-clause-may : goal.all_table-requires-clause-may
all_table-requires-clause-may c = made_mergeable c.args.tallies.now c.args.keys.now c.args.merge.now c.args.groups.items c.in_ok-lines.lines.items c.in_ok-lines.ensures c.requires.may

pub all_table-requires-clause-apart : goal.all_table-requires-clause-apart
all_table-requires-clause-apart c = made_apart c.args.tallies.now c.args.keys.now c.args.merge.now c.args.groups.items c.in_ok-lines.lines.items c.in_ok-lines.ensures c.requires.rise

pub some_table-requires-clause-may : goal.some_table-requires-clause-may
some_table-requires-clause-may c =
    subst (λ (is : List MergeItem). All (λ l. IsMergeable c.args.keys.now is c.args.tallies.now l.group) c.as_mut_slice.result.now) (sym c.as_slice.ensures)
    (made_mergeable c.args.tallies.now c.args.keys.now c.args.merge.now c.args.groups.items c.as_mut_slice.result.now (c.as_mut_slice.ensures.value ∙ c.in_ok-lines.ensures) c.requires.may)

pub some_table-requires-clause-apart : goal.some_table-requires-clause-apart
some_table-requires-clause-apart c =
    subst (λ (is : List MergeItem). AreApart group_order (map (line_of c.args.tallies.now c.args.keys.now is) c.as_mut_slice.result.now)) (sym c.as_slice.ensures)
    (made_apart c.args.tallies.now c.args.keys.now c.args.merge.now c.args.groups.items c.as_mut_slice.result.now (c.as_mut_slice.ensures.value ∙ c.in_ok-lines.ensures) c.requires.rise)

pub returns-in-None : goal.returns-in-None
returns-in-None c =
    subst (λ (ls : List GroupLine). IfOk c.all_table.result (λ table. table ≡ map (λ (r : GroupLine). r.values) (first (limit_of c.args.merge.now.limit) (in_order group_order ls))))
    (made_are c.args.tallies.now c.args.keys.now c.args.merge.now c.args.groups.items c.in_ok-lines.lines.items c.in_ok-lines.ensures) c.all_table.ensures

pub returns-in-Some : goal.returns-in-Some
returns-in-Some c =
    subst (λ (limit : Option ℕ). IfOk c.some_table.result (λ table. table ≡ map (λ (r : GroupLine). r.values) (first limit (in_order group_order (map (merged_line c.args.keys.now c.args.merge.now) (map (group_of c.args.tallies.now) c.args.groups.items)))))) (sym c.in-Some.ensures.limit)
    (subst (λ (ls : List GroupLine). IfOk c.some_table.result (λ table. table ≡ map (λ (r : GroupLine). r.values) (first (Some c.in-Some.n) (in_order group_order ls))))
    (ap (λ (is : List MergeItem). map (line_of c.args.tallies.now c.args.keys.now is) c.as_mut_slice.result.now) c.as_slice.ensures
    ∙ made_are c.args.tallies.now c.args.keys.now c.args.merge.now c.args.groups.items c.as_mut_slice.result.now (c.as_mut_slice.ensures.value ∙ c.in_ok-lines.ensures))
    c.some_table.ensures)
