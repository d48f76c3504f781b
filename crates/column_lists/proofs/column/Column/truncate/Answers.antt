use Rattle.std.proofs.Common.{◌∙◌, ap, take}
use Rattle.column_lists.specs.Columns.{cells_of}
use Rattle.column_lists.proofs.Presence.{front_is}
use Rattle.column_lists.proofs.column.Column.truncate.Goals as goal

pub returns : goal.returns
returns c =
    ap (λ v. cells_of v c.truncate-2.new.self.items) c.truncate.ensures.items
    ∙ (ap (λ p. cells_of (take c.args.count c.self.inside.values.items) p) c.truncate-2.ensures.items
    ∙ (front_is c.self.inside.values.items c.self.inside.present.items c.args.count
    ∙ ap (take c.args.count) c.self.view_is))
