use Rattle.std.proofs.Common.{◌≡◌, ◌++◌, ◌∙◌, ◌+◌, ◌≤◌, ap, ap₂, arith, length, subst, sym}
use Rattle.sky_row.specs.Columns.{AreColumns}
use Rattle.column_lists.specs.Columns.{objects_of}
use Rattle.sky_row.proofs.Appended.{columns_of_both}
use Rattle.column_lists.proofs.Appended.{objects_behind}
use Rattle.column_lists.proofs.Rowed.{objects_count}
use Rattle.sky_row.proofs.columns.Columns.followed_by.Goals as goal

pub invariant_of-result : goal.invariant_of-result
invariant_of-result c =
    let wide : length c.lists.result.now.further ≡ length c.self.inside.lists.further =
    c.lists.ensures.width ∙ (c.requires.wide ∙ (ap (λ v. length v.names) (sym c.self.view_is) ∙ sym c.self.invariant.wide)) in
    subst (AreColumns c.self.inside.schema) (sym c.in_ok-lists.ensures)
    (columns_of_both c.self.inside.schema c.self.inside.lists c.lists.result.now c.self.invariant c.lists.ensures.rows wide
    (omega (arith, c.requires.few, objects_count c.self.inside.lists, objects_count c.lists.result.now, ap (λ v. length v.objects) c.self.view_is, ap length c.lists.ensures.objects)))

pub returns-clause-objects : goal.returns-clause-objects
returns-clause-objects c =
    let wide : length c.lists.result.now.further ≡ length c.self.inside.lists.further =
    c.lists.ensures.width ∙ (c.requires.wide ∙ (ap (λ v. length v.names) (sym c.self.view_is) ∙ sym c.self.invariant.wide)) in
    ap objects_of c.in_ok-lists.ensures
    ∙ (objects_behind c.self.inside.lists c.lists.result.now c.self.invariant.rows.aligned wide
    ∙ ap₂ ◌++◌ (ap (λ v. v.objects) c.self.view_is) c.lists.ensures.objects)
