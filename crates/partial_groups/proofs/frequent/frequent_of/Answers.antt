use Rattle.std.proofs.Common.{◌≡◌, ℕ, List, [], length, of_z, subst, sym, to_z, w64, IsPermutation, Ok, Err}
use Rattle.std.specs.List.{All}
use Rattle.std.specs.Prelude.{IfErr, IfOk, IfSome}
use Rattle.sky_io.specs.Stops.{IfBad}
use Rattle.answer_rules.specs.Finish.{groups_merged, merged_groups}
use Rattle.partial_groups.specs.Counts.{numbers_counted}
use Rattle.partial_groups.specs.Groups.{Gathered}
use Rattle.partial_groups.specs.Merging.{MayMerge}
use Rattle.partial_groups.specs.Ungrouped.{values_in}
use Rattle.partial_groups.proofs.RowCounts.{may_permute, permuted_rows}
use Rattle.partial_groups.proofs.frequent.frequent_of.Goals as goal

pub frequent_table-requires-clause-alike : goal.frequent_table-requires-clause-alike
frequent_table-requires-clause-alike c =
    let moved : IsPermutation (values_in c.args.lists.now) (numbers_counted (to_z w64 (of_z w64 c.args.bounds.least)) c.as_slice.result.now (length c.as_slice.result.now)) =
    subst (λ (k : List ℕ). IsPermutation (values_in c.args.lists.now) (numbers_counted (to_z w64 (of_z w64 c.args.bounds.least)) k (length k))) (sym c.as_slice.ensures.value) c.in-Some-counted_in.ensures.counted in
    may_permute [] c.args.counted.now (values_in c.args.lists.now) _ moved c.requires.alike

pub frequent_table-requires-clause-may : goal.frequent_table-requires-clause-may
frequent_table-requires-clause-may c =
    let moved : IsPermutation (values_in c.args.lists.now) (numbers_counted (to_z w64 (of_z w64 c.args.bounds.least)) c.as_slice.result.now (length c.as_slice.result.now)) =
    subst (λ (k : List ℕ). IsPermutation (values_in c.args.lists.now) (numbers_counted (to_z w64 (of_z w64 c.args.bounds.least)) k (length k))) (sym c.as_slice.ensures.value) c.in-Some-counted_in.ensures.counted in
    subst (λ (gs : Gathered). All (λ g. All (MayMerge c.args.keys.now g) c.args.merge.now.items) (groups_merged c.args.keys.now gs))
    (sym (permuted_rows [] c.args.counted.now (values_in c.args.lists.now) _ moved c.requires.alike)) c.requires.may

pub returns-clause-ok : goal.returns-clause-ok
returns-clause-ok c =
    let moved : IsPermutation (values_in c.args.lists.now) (numbers_counted (to_z w64 (of_z w64 c.args.bounds.least)) c.as_slice.result.now (length c.as_slice.result.now)) =
    subst (λ (k : List ℕ). IsPermutation (values_in c.args.lists.now) (numbers_counted (to_z w64 (of_z w64 c.args.bounds.least)) k (length k))) (sym c.as_slice.ensures.value) c.in-Some-counted_in.ensures.counted in
    subst (λ (gs : Gathered). IfOk c.frequent_table.result (λ made. IfSome made (λ table. merged_groups c.args.keys.now c.args.merge.now (groups_merged c.args.keys.now gs) ≡ Ok table)))
    (permuted_rows [] c.args.counted.now (values_in c.args.lists.now) _ moved c.requires.alike) c.frequent_table.ensures.ok

pub returns-clause-out : goal.returns-clause-out
returns-clause-out c =
    let moved : IsPermutation (values_in c.args.lists.now) (numbers_counted (to_z w64 (of_z w64 c.args.bounds.least)) c.as_slice.result.now (length c.as_slice.result.now)) =
    subst (λ (k : List ℕ). IsPermutation (values_in c.args.lists.now) (numbers_counted (to_z w64 (of_z w64 c.args.bounds.least)) k (length k))) (sym c.as_slice.ensures.value) c.in-Some-counted_in.ensures.counted in
    subst (λ (gs : Gathered). IfErr c.frequent_table.result (λ stop. IfBad stop (λ out. merged_groups c.args.keys.now c.args.merge.now (groups_merged c.args.keys.now gs) ≡ Err out.total)))
    (permuted_rows [] c.args.counted.now (values_in c.args.lists.now) _ moved c.requires.alike) c.frequent_table.ensures.out
