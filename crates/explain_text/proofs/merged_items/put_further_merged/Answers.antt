use Rattle.sky_io.proofs.Writes.{under_fail, under_more}
use Rattle.std.proofs.Common.{codes}
use Rattle.sql_rules.proofs.Listed.{next_part}
use Rattle.transcript_rules.specs.MergeLines.{merged_over}
use Rattle.explain_text.proofs.merged_items.put_further_merged.Goals as goal

pub returns-in-Failed : goal.returns-in-Failed
returns-in-Failed g c =
    let next = next_part (codes ",") (merged_over c.args.keys.now) c.args.rest.now c.loop-item.item-index c.item-item.result c.loop-item-test.true c.item-item.is in
    under_fail _ _ _ _ _ _ (rw next at c.loop-item.invariant.under) c.in-Failed.ensures

pub loop-item-preserved : goal.loop-item-preserved
loop-item-preserved g c =
    let next = next_part (codes ",") (merged_over c.args.keys.now) c.args.rest.now c.loop-item.item-index c.item-item.result c.loop-item-test.true c.item-item.is in
    record { under = under_more _ _ _ _ _ _ (rw next at c.loop-item.invariant.under) c.in-Done.ensures }
