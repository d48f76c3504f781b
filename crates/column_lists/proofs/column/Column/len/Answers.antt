use Rattle.std.proofs.Common.{◌≡◌, ◌∙◌, sym, ap, length, rules}
use Rattle.column_lists.proofs.Presence.{count}
use Rattle.column_lists.proofs.column.Column.len.Goals as goal

pub returns : goal.returns
returns c =
    let is : c.len.result ≡ length c.self.inside.values.items = search rules in
    is ∙ sym (ap length (sym c.self.view_is) ∙ count c.self.inside.values.items c.self.inside.present.items)
