use Rattle.std.proofs.Common.{◌≡◌, ◌∙◌, ◌++◌, ℤ, List, IsPermutation, subst, sym}
use Rattle.std.proofs.lemmas.Result.{IfOk-weaker}
use Rattle.answer_rules.specs.Gather.{gather}
use Rattle.answer_rules.specs.Keys.{key_order}
use Rattle.answer_rules.specs.Parts.{add_own_sums}
use Rattle.partial_groups.specs.Ungrouped.{row_groups, values_in}
use Rattle.partial_groups.proofs.RowCounts.{may_permute, permuted_rows}
use Rattle.partial_groups.proofs.row_runs.sorted.Goals as goal

pub put_runs-requires : goal.put_runs-requires
put_runs-requires c =
    let values : List ℤ = values_in c.args.lists.items in
    let moved : IsPermutation values c.as_slice.result.now =
    subst (λ (l : List ℤ). IsPermutation l c.as_slice.result.now) c.in_ok-values.ensures (subst (IsPermutation c.in_ok-values.values.items) (sym c.as_slice.ensures.value) c.sort_unstable.ensures.permutation) in
    may_permute c.args.table c.args.counted.now values c.as_slice.result.now moved c.requires

pub returns : goal.returns
returns c =
    let values : List ℤ = values_in c.args.lists.items in
    let moved : IsPermutation values c.as_slice.result.now =
    subst (λ (l : List ℤ). IsPermutation l c.as_slice.result.now) c.in_ok-values.ensures (subst (IsPermutation c.in_ok-values.values.items) (sym c.as_slice.ensures.value) c.sort_unstable.ensures.permutation) in
    IfOk-weaker c.put_runs.result (λ new. new ≡ gather key_order add_own_sums (c.args.table ++ row_groups c.args.counted.now c.as_slice.result.now))
    (λ new. new ≡ gather key_order add_own_sums (c.args.table ++ row_groups c.args.counted.now values))
    (λ new e. e ∙ permuted_rows c.args.table c.args.counted.now values c.as_slice.result.now moved c.requires) c.put_runs.ensures
