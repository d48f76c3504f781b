use Rattle.std.proofs.Common.{ℕ, ◌<◌, ◌∙◌, subst, sym, slice_index_or}
use Rattle.std.specs.List.{All}
use Rattle.sky_vector.specs.Pos.{point}
use Rattle.sky_rules.specs.Partition.{chunk_count}
use Rattle.chunk_store.proofs.Pushing.{near_there}
use Rattle.chunk_store.proofs.fill.push_near.Goals as goal

pub push_all-requires : goal.push_all-requires
push_all-requires c =
    let g = c.args.plan.now in
    let near = subst (All (λ (x : ℕ). x < chunk_count g)) (sym (c.as_slice.ensures.value ∙ rw c.clear.ensures.items at c.in_ok-push_near_others.ensures.all)) (near_there g (point c.args.at.now)) in
    λ k d h. subst (λ (n : ℕ). slice_index_or c.as_slice.result.now k d < n) (sym c.requires.all) (near k d h)
