use Rattle.std.proofs.Common.{◌≡◌, subst, sym}
use Rattle.std.specs.Prelude.{IfOk}
use Rattle.answer_rules.specs.Finish.{merged_rows}
use Rattle.answer_rules.specs.Keeps.{AreApart}
use Rattle.answer_rules.specs.Ranks.{row_order}
use Rattle.partial_rows.specs.Views.{MultisetView}
use Rattle.partial_rows.proofs.multiset.Multiset.finish.Goals as goal

pub multiset_table-requires-clause-apart : goal.multiset_table-requires-clause-apart
multiset_table-requires-clause-apart c = subst (λ (v : MultisetView). AreApart row_order v.rows) (sym c.self.view_is) c.requires

pub returns : goal.returns
returns c = subst (λ (v : MultisetView). IfOk c.multiset_table.result (λ table. table ≡ merged_rows c.args.merge.now v.rows)) c.self.view_is c.multiset_table.ensures
