use Rattle.std.proofs.Common.{◌∙◌, ap, map}
use Rattle.column_lists.specs.Columns.{or_zero}
use Rattle.column_lists.proofs.Presence.{numbers_are}
use Rattle.column_lists.proofs.column.Column.values.Goals as goal

pub returns : goal.returns
returns c = c.as_slice.ensures.value ∙ (numbers_are _ _ c.self.invariant ∙ ap (map or_zero) c.self.view_is)
