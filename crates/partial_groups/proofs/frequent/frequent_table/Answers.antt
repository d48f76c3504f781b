use Rattle.std.proofs.Common.{◌≡◌, ◌∙◌, rules, [], Err, FitsSigned, ℤ, w64, length, subst, sym}
use Rattle.std.specs.Prelude.{IfErr}
use Rattle.std.proofs.lemmas.Int.{to_z-of_z}
use Rattle.sky_io.specs.Stops.{IfBad}
use Rattle.answer_rules.specs.Answers.{Answer}
use Rattle.answer_rules.specs.Finish.{groups_merged, merged_groups}
use Rattle.partial_groups.specs.Counts.{numbers_counted}
use Rattle.partial_groups.specs.Groups.{MayGather}
use Rattle.partial_groups.specs.Ungrouped.{row_groups}
use Rattle.partial_groups.proofs.Pruned.{kept_may, table_pruned}
use Rattle.partial_groups.proofs.frequent.frequent_table.Goals as goal

pub table_before-requires-clause-alike : goal.table_before-requires-clause-alike
table_before-requires-clause-alike c =
    let least_fits : FitsSigned w64 c.args.least = search rules in
    kept_may c.args.counted.now _ c.in-Some-cutoff_after.cutoff c.args.counts.now
    (subst (λ (l : ℤ). MayGather [] (row_groups c.args.counted.now (numbers_counted l c.args.counts.now (length c.args.counts.now)))) (sym (to_z-of_z w64 c.args.least least_fits)) c.requires.alike)

pub finish-requires : goal.finish-requires
finish-requires c =
    let least_fits : FitsSigned w64 c.args.least = search rules in
    let same = table_pruned c.args.counted.now c.args.keys.now c.args.merge.now c.in-Some.n c.args.least _ c.in-Some-cutoff_after.cutoff c.args.counts.now c.in_ok-table.table c.in-Some.ensures.keyed c.in-Some.ensures.by c.in-Some.ensures.limit c.in-Some-cutoff_after.ensures (to_z-of_z w64 c.args.least least_fits) c.in_ok-table.ensures in
    same.may c.requires.may

pub returns-in_err-finish-clause-out : goal.returns-in_err-finish-clause-out
returns-in_err-finish-clause-out c =
    let least_fits : FitsSigned w64 c.args.least = search rules in
    let same = table_pruned c.args.counted.now c.args.keys.now c.args.merge.now c.in-Some.n c.args.least _ c.in-Some-cutoff_after.cutoff c.args.counts.now c.in_ok-table.table c.in-Some.ensures.keyed c.in-Some.ensures.by c.in-Some.ensures.limit c.in-Some-cutoff_after.ensures (to_z-of_z w64 c.args.least least_fits) c.in_ok-table.ensures in
    let out : IfErr c.from_residual-in_err-finish.result (λ stop. IfBad stop (λ out. merged_groups c.args.keys.now c.args.merge.now (groups_merged c.args.keys.now c.in_ok-table.table) ≡ Err out.total)) = search rules in
    subst (λ (a : Answer). IfErr c.from_residual-in_err-finish.result (λ stop. IfBad stop (λ out. a ≡ Err out.total))) same.same out

pub returns-clause-ok : goal.returns-clause-ok
returns-clause-ok c =
    let least_fits : FitsSigned w64 c.args.least = search rules in
    let same = table_pruned c.args.counted.now c.args.keys.now c.args.merge.now c.in-Some.n c.args.least _ c.in-Some-cutoff_after.cutoff c.args.counts.now c.in_ok-table.table c.in-Some.ensures.keyed c.in-Some.ensures.by c.in-Some.ensures.limit c.in-Some-cutoff_after.ensures (to_z-of_z w64 c.args.least least_fits) c.in_ok-table.ensures in
    sym same.same ∙ c.in_ok-finish.ensures.ok
