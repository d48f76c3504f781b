use Rattle.std.proofs.Common.{◌≡◌, ◌∙◌, ap, sym, subst, length}
use Rattle.std.specs.Prelude.{All}
use Rattle.table_rules.specs.Objects.{IsRow}
use Rattle.column_block.specs.Blocks.{Stored}
use Rattle.column_lists.proofs.Rowed.{objects_count, rows_are, rows_are_wide}
use Rattle.column_block.proofs.block.Block.len.Goals as goal

pub returns-clause-count : goal.returns-clause-count
returns-clause-count c = ap length c.ids.ensures ∙ (sym (objects_count c.self.inside.lists) ∙ ap (λ v. length v.objects) c.self.view_is)

pub returns-clause-rows : goal.returns-clause-rows
returns-clause-rows c = subst (λ (v : Stored). All IsRow v.objects) c.self.view_is (rows_are c.self.inside.lists c.self.invariant.0)

pub returns-clause-wide : goal.returns-clause-wide
returns-clause-wide c =
    subst (λ (v : Stored). All (λ o. length o.further ≡ v.width) v.objects) c.self.view_is (rows_are_wide c.self.inside.lists)
