use Rattle.std.proofs.Common.{subst}
use Rattle.answer_rules.specs.Keeps.{AreApart}
use Rattle.answer_rules.specs.Ranks.{row_order}
use Rattle.partial_merge.specs.declared.contents.Contents.{Contents}
use Rattle.partial_merge.specs.Contents.{rows_of, view_in}
use Rattle.partial_merge.proofs.contents.finish_rows.Goals as goal

pub finish-requires : goal.finish-requires
finish-requires c = subst (λ (h : Contents). AreApart row_order (rows_of (view_in h))) c.in-Rows.is c.requires.apart
