use Rattle.std.proofs.Common.{◌≡◌, ◌++◌, ◌∙◌, ℤ, List, Option, length, map, subst, sym}
use Rattle.std.specs.List.{All}
use Rattle.std.specs.Prelude.{IfOk}
use Rattle.answer_rules.specs.Finish.{merged_rows}
use Rattle.answer_rules.specs.Keeps.{AreApart}
use Rattle.answer_rules.specs.Ranks.{row_order}
use Rattle.answer_rules.proofs.Sorting.{apart-permutation}
use Rattle.partial_rows.specs.Multisets.{ranks_in, rows_in}
use Rattle.partial_rows.specs.Pairs.{pair_row, pairs_in}
use Rattle.partial_rows.specs.Rows.{IsIn}
use Rattle.partial_rows.proofs.Pairs.{merged_any, pairs_read}
use Rattle.partial_rows.proofs.multiset_table.both_table.Goals as goal

pub buffer_table-requires-clause-there : goal.buffer_table-requires-clause-there
buffer_table-requires-clause-there c =
    subst (λ (cs : List (Option ℤ)). All (IsIn (length cs)) (ranks_in c.put_pairs.new.buffer)) (sym c.as_slice-2.ensures.value) c.in_ok-put_pairs.ensures.mine.0

pub buffer_table-requires-clause-apart : goal.buffer_table-requires-clause-apart
buffer_table-requires-clause-apart c =
    subst (λ (cs : List (Option ℤ)). AreApart row_order (rows_in cs c.put_pairs.new.buffer)) (sym c.as_slice-2.ensures.value)
    (apart-permutation row_order _ _ (pairs_read (rows_in c.args.cells.items c.args.buffer) (rows_in c.put_pairs.new.cells.items c.put_pairs.new.buffer) c.as_slice.result.now (pairs_in c.args.pairs) (c.as_slice.ensures.value ∙ c.in_ok-wide.ensures) c.in_ok-put_pairs.ensures.put) c.requires.apart)

pub returns : goal.returns
returns c =
    subst (λ t. IfOk c.buffer_table.result (λ table. table ≡ t)) (merged_any c.args.merge.now (rows_in c.args.cells.items c.args.buffer ++ map pair_row (pairs_in c.args.pairs)) (rows_in c.put_pairs.new.cells.items c.put_pairs.new.buffer) c.requires.apart (pairs_read (rows_in c.args.cells.items c.args.buffer) (rows_in c.put_pairs.new.cells.items c.put_pairs.new.buffer) c.as_slice.result.now (pairs_in c.args.pairs) (c.as_slice.ensures.value ∙ c.in_ok-wide.ensures) c.in_ok-put_pairs.ensures.put))
    (subst (λ (cs : List (Option ℤ)). IfOk c.buffer_table.result (λ table. table ≡ merged_rows c.args.merge.now (rows_in cs c.put_pairs.new.buffer))) c.as_slice-2.ensures.value c.buffer_table.ensures)
