use Rattle.std.proofs.Common.{◌≡◌, ◌<◌, ◌∙◌, ap, sym, map, subst, [], rules, arith, length}
use Rattle.std.specs.Prelude.{IsTrue, All}
use Rattle.std.specs.Option.{is_some}
use Rattle.std.proofs.lemmas.List.{nil_from_length}
use Rattle.column_lists.specs.Columns.{cells_of}
use Rattle.column_lists.proofs.Presence.{presence_is, all_present, full_presence}
use Rattle.column_lists.proofs.column.Column.present.Goals as goal

pub returns-then-is_empty-clause-none : goal.returns-then-is_empty-clause-none
returns-then-is_empty-clause-none c =
    let zero : length c.as_slice-present.result.now ≡ 0 = search rules in
    let none : c.self.inside.present.items ≡ [] = sym c.as_slice-present.ensures.value ∙ nil_from_length _ zero in
    subst (All (λ cell. IsTrue (is_some cell))) (ap (cells_of c.self.inside.values.items) (sym none) ∙ c.self.view_is) (all_present c.self.inside.values.items)

pub returns-else-is_empty-clause-some : goal.returns-else-is_empty-clause-some
returns-else-is_empty-clause-some c =
    let some : 0 < length c.as_slice-present.result.now = search rules in
    let all : length c.self.inside.present.items ≡ length c.self.inside.values.items = full_presence _ _ c.self.invariant.presence (omega (arith, some, ap length c.as_slice-present.ensures.value)) in
    c.as_slice-present.ensures.value ∙ (presence_is _ _ all ∙ ap (map is_some) c.self.view_is)
