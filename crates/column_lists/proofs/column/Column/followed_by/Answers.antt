use Rattle.std.proofs.Common.{◌≡◌, ◌++◌, ◌∙◌, ap, ap₂, rules, length}
use Rattle.column_lists.specs.Columns.{IsPresenceOfBoth, cells_of}
use Rattle.column_lists.proofs.Appended.{cells_behind_both}
use Rattle.column_lists.proofs.column.Column.followed_by.Goals as goal

pub returns : goal.returns
returns c =
    let values : c.extend_from_slice.new.self.items ≡ c.self.inside.values.items ++ c.other.inside.values.items = search rules in
    let n : c.len-count.result ≡ length c.self.inside.values.items = search rules in
    let m : c.len.result ≡ length c.other.inside.values.items = search rules in
    let found : IsPresenceOfBoth (length c.self.inside.values.items) (length c.other.inside.values.items) c.self.inside.present.items c.other.inside.present.items c.in_ok-present.present.items =
    rw (n, m, c.as_slice-shown.ensures.value) at c.in_ok-present.ensures in
    c.of_parts.ensures ∙ (ap (λ l. cells_of l c.in_ok-present.present.items) values ∙ (cells_behind_both _ _ _ _ _ found ∙ ap₂ ◌++◌ c.self.view_is c.other.view_is))
