use Rattle.std.proofs.Common.{ap, length, sym, ◌∙◌}
use Rattle.answer_table.proofs.Tabling.{length_table}
use Rattle.answer_table.proofs.table.Table.len.Goals as goal

pub returns : goal.returns
returns c = sym (length_table c.self.inside.rows c.self.inside.width c.self.inside.values.items) ∙ ap length c.self.view_is
