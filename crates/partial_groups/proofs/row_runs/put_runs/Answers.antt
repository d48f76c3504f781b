use Rattle.std.proofs.Common.{rules, FitsSigned, arith, pos, slice_index_or, w64}
use Rattle.std.proofs.lemmas.Int.{to_z-of_z}
use Rattle.partial_groups.proofs.RowCounts.{at_first}
use Rattle.partial_groups.proofs.Runs.{run_may, run_put}
use Rattle.partial_groups.proofs.row_runs.put_runs.Goals as goal

pub loop-from-init : goal.loop-from-init
loop-from-init c = record {
  inside = omega arith;
  table = at_first c.args.table c.len-count.ensures.gathered;
}

pub put_rows-requires : goal.put_rows-requires
put_rows-requires c =
    let fits : FitsSigned w64 (slice_index_or c.args.values.now c.loop-from.from (pos 0)) = search rules in
    run_may c.args.table c.loop-from.table c.args.counted.now c.args.values.now c.loop-from.from c.run_length-n.result _ c.run_length-n.ensures.equal
    (to_z-of_z w64 (slice_index_or c.args.values.now c.loop-from.from (pos 0)) fits) c.requires c.loop-from.invariant.table

pub loop-from-preserved : goal.loop-from-preserved
loop-from-preserved c =
    let fits : FitsSigned w64 (slice_index_or c.args.values.now c.loop-from.from (pos 0)) = search rules in
    record {
      inside = omega (arith, c.run_length-n.ensures.most);
      table =
          run_put c.args.table c.loop-from.table c.put_rows.new.table c.args.counted.now c.args.values.now c.loop-from.from c.run_length-n.result _ c.run_length-n.ensures.equal
          (to_z-of_z w64 (slice_index_or c.args.values.now c.loop-from.from (pos 0)) fits) c.requires c.loop-from.invariant.table c.in_ok-put_rows.ensures;
    }
