use Rattle.std.proofs.Common.{rules, ◌∙◌, [], FitsSigned, ℤ, w64, length, subst, sym}
use Rattle.std.proofs.lemmas.Int.{to_z-of_z}
use Rattle.partial_groups.specs.Counts.{numbers_counted}
use Rattle.partial_groups.specs.Groups.{MayGather}
use Rattle.partial_groups.specs.Pruning.{counts_before}
use Rattle.partial_groups.specs.Ungrouped.{row_groups}
use Rattle.partial_groups.proofs.Pruned.{kept_next_may, kept_next_put}
use Rattle.partial_groups.proofs.frequent.table_before.Goals as goal

pub put_rows-requires : goal.put_rows-requires
put_rows-requires c =
    let fits : FitsSigned w64 c.number_at-value.result = search rules in
    let least_fits : FitsSigned w64 c.args.least = search rules in
    let low = to_z-of_z w64 c.args.least least_fits in
    kept_next_may c.loop-i.table c.args.counted.now _ _ c.args.cutoff c.args.counts.now c.loop-i.i c.count_before-count.result (to_z-of_z w64 c.number_at-value.result fits ∙ c.number_at-value.ensures) c.loop-i-test.true c.count_before-count.ensures
    (subst (λ (l : ℤ). MayGather [] (row_groups c.args.counted.now (numbers_counted l (counts_before c.args.cutoff 0 c.args.counts.now) (length c.args.counts.now)))) (sym low) c.requires.alike) c.loop-i.invariant

pub loop-i-preserved : goal.loop-i-preserved
loop-i-preserved c =
    let fits : FitsSigned w64 c.number_at-value.result = search rules in
    let least_fits : FitsSigned w64 c.args.least = search rules in
    let low = to_z-of_z w64 c.args.least least_fits in
    kept_next_put c.loop-i.table c.put_rows.new.table c.args.counted.now _ _ c.args.cutoff c.args.counts.now c.loop-i.i c.count_before-count.result (to_z-of_z w64 c.number_at-value.result fits ∙ c.number_at-value.ensures) c.loop-i-test.true c.count_before-count.ensures
    (subst (λ (l : ℤ). MayGather [] (row_groups c.args.counted.now (numbers_counted l (counts_before c.args.cutoff 0 c.args.counts.now) (length c.args.counts.now)))) (sym low) c.requires.alike) c.loop-i.invariant c.in_ok-put_rows.ensures
