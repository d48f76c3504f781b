-- The chunks that need a point, as a list and as a set; and that overlap is enough.
use Rattle.std.proofs.Common.{◌≡◌, ℕ, ◌<◌, refl, Bool, true, false, ◌&&◌, ◌||◌, not}
use Rattle.std.specs.List.{filter}
use Rattle.std.proofs.lemmas.List.Elements.{All-contains, All-filter, filter_passes}
use Rattle.std.proofs.lemmas.List.Kept.{AllPairs-filter}
use Rattle.sky_rules.specs.Partition.{chunk_count}
use Rattle.sky_rules.specs.Bounds.{in_chunk, near_chunk}
use Rattle.sky_rules.specs.Chunks.{all_chunks}
use Rattle.sky_rules.proofs.OnlyPlace.{near_enough}
use Rattle.sky_rules.proofs.Ranges.{listed, range_ascends, range_below}
use Rattle.overlap_tables.specs.Overlaps.{in_full_overlap}
use Rattle.overlap_tables.specs.Laws.{OverlapIsEnough, OthersAscend, OthersNeedIt}

held_by : (near held : Bool) → near ≡ true → held || (near && not held) ≡ true
held_by near true e = refl
held_by near false e = rw e refl

-- overlap is enough
pub overlap_is_enough : OverlapIsEnough
overlap_is_enough g c s u v sky hc hs held near =
    let both = near_enough g c s u v sky hc hs held near in record {
      near_its_sub = both.0;
      near_its_chunk = both.1;
      held = held_by (near_chunk g c v) (in_chunk g c v) both.1;
    }

-- the chunks that need a point ascend
pub others_ascend : OthersAscend
others_ascend g p = AllPairs-filter (λ x y. x < y) (λ c. in_full_overlap g c p) (all_chunks g) (range_ascends (chunk_count g))

-- a chunk is listed exactly where its full overlap holds the point
pub others_need_it : OthersNeedIt
others_need_it g p c =
    let test : ℕ → Bool = λ k. in_full_overlap g k p in
    let all = all_chunks g in (
      (λ h. (
        All-contains (λ k. k < chunk_count g) (filter test all) c (All-filter test (λ k. k < chunk_count g) all (range_below (chunk_count g))) h,
        All-contains (λ k. test k ≡ true) (filter test all) c (filter_passes test all) h,
      )),
      (λ h. listed test c (chunk_count g) h.0 h.1),
    )
