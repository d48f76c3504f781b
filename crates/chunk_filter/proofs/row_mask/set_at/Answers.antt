use Rattle.std.proofs.Common.{◌∙◌, arith, ◌<◌, get_or, length, true}
use Rattle.std.proofs.lemmas.List.{length-set}
use Rattle.chunk_filter.proofs.Masks.{only_more, set_more}
use Rattle.chunk_filter.proofs.row_mask.set_at.Goals as goal

pub loop-place-preserved : goal.loop-place-preserved
loop-place-preserved c =
    let place = get_or c.args.places.now c.loop-place.place-index 0 in
    let low : place < length c.args.mask.now = c.requires c.loop-place.place-index 0 c.loop-place-test.true in
    let there : place < length c.loop-place.mask = omega (arith, low, c.loop-place.invariant.count) in
    record {
      count = length-set c.loop-place.mask place true ∙ c.loop-place.invariant.count;
      set = set_more c.loop-place.mask c.args.places.now c.loop-place.place-index there c.loop-place.invariant.set;
      only = λ test all first. only_more c.loop-place.mask place test (all c.loop-place.place-index 0 c.loop-place-test.true)
          (c.loop-place.invariant.only test all first);
    }
