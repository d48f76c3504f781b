use Rattle.std.proofs.Common.{◌≡◌, ◌∙◌, ◌<◌, ℕ, ap, false, get_or, length, replicate, subst, sym, true}
use Rattle.std.specs.Prelude.{All}
use Rattle.std.proofs.lemmas.List.{length-replicate}
use Rattle.chunk_filter.proofs.Masks.{mask_is}
use Rattle.chunk_filter.proofs.Places.{written_whole}
use Rattle.chunk_filter.proofs.row_mask.mask_over.Goals as goal

pub returns : goal.returns
returns c =
    let conds = c.args.conds.now in
    let objects = c.args.block.now.objects in
    let places = c.in_ok-places.places.items in
    let clear : c.as_mut_slice.result.now ≡ replicate (length objects) false =
    c.as_mut_slice.ensures.value ∙ (c.in_ok-mask.ensures ∙ ap (λ n. replicate n false) c.len.ensures.count) in
    let count : length c.set_at.new.mask ≡ length objects =
    c.set_at.ensures.len ∙ (ap length clear ∙ length-replicate (length objects) false) in
    written_whole c.in_ok-mask.mask.items c.set_at.new.mask c.in_ok-mask.mask.len (c.set_at.ensures.len ∙ c.as_mut_slice.ensures.len)
    ∙ mask_is conds objects c.set_at.new.mask places count c.in_ok-places.ensures.value
    (subst (λ l. (j : ℕ) → j < length l → get_or c.set_at.new.mask (get_or l j 0) false ≡ true) c.as_slice.ensures.value c.set_at.ensures.set)
    (λ test all first.
    c.set_at.ensures.only test (subst (All (λ place. test place ≡ true)) (sym c.as_slice.ensures.value) all)
    (λ k h. first k (subst (λ l. get_or l k false ≡ true) clear h)))
