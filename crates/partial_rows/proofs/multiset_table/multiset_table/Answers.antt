use Rattle.std.proofs.Common.{◌∙◌, ℤ, List, Option, map, subst, sym}
use Rattle.answer_rules.specs.Keeps.{AreApart}
use Rattle.answer_rules.specs.Ranks.{row_order}
use Rattle.partial_rows.specs.Multisets.{pushed_in, rows_in}
use Rattle.partial_rows.specs.Pairs.{pair_row, pairs_in}
use Rattle.partial_rows.proofs.Pairs.{back_apart, front_apart}
use Rattle.partial_rows.proofs.ShortPairs.{no_limit}
use Rattle.partial_rows.proofs.multiset_table.multiset_table.Goals as goal

pub buffer_table-requires-clause-apart : goal.buffer_table-requires-clause-apart
buffer_table-requires-clause-apart c =
    subst (λ (cs : List (Option ℤ)). AreApart row_order (rows_in cs c.args.buffer)) (sym c.as_slice.ensures.value)
    (front_apart (rows_in c.args.cells.items c.args.buffer) (map pair_row (pairs_in c.args.pairs)) c.requires.apart)

pub sorted_pair_table-requires : goal.sorted_pair_table-requires
sorted_pair_table-requires c = back_apart (rows_in c.args.cells.items c.args.buffer) (map pair_row (pairs_in c.args.pairs)) c.requires.apart

pub both_table-requires-clause-all : goal.both_table-requires-clause-all
both_table-requires-clause-all c = no_limit (pushed_in c.args.buffer) (pairs_in c.args.pairs) c.requires.multiset.all (sym c.is_empty.ensures.value ∙ c.if-is_empty.false)
