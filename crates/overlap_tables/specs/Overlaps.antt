-- The chunks that need a point as overlap.
use Rattle.std.specs.Prelude.{◌≡◌, ℕ, ◌-◌, List, ◌++◌, Bool, ◌&&◌, not, IsTrue}
use Rattle.std.specs.List.{filter, range_with_len}
use Rattle.sky_vector.specs.Points.{Point}
use Rattle.sky_rules.specs.Partition.{Partition}
use Rattle.sky_rules.specs.Chunks.{all_chunks}
use Rattle.sky_rules.specs.Bounds.{in_chunk, near_chunk}
use Rattle.sky_plan.specs.Places.{IsOnlyChunk}

-- the point is in the full overlap of the chunk: near it, and not in it
abbrev pub in_full_overlap : Partition → ℕ → Point → Bool
in_full_overlap g c p = near_chunk g c p && not (in_chunk g c p)

-- the chunks whose full overlap contains the point, lowest first
abbrev pub near_others : Partition → Point → List ℕ
near_others g p = filter (λ c. in_full_overlap g c p) (all_chunks g)

-- those of them from chunk a up to but not including chunk b
abbrev pub others_between : Partition → Point → ℕ → ℕ → List ℕ
others_between g p a b = filter (λ c. in_full_overlap g c p) (range_with_len a (b - a))

-- The new list is the old one followed by a prefix of a third: its first numbers, all of them or fewer.
pub record AddsFront (old new whole : List ℕ) : Type 0 where
  pub front : List ℕ
  pub rest : List ℕ
  pub added : new ≡ old ++ front
  pub within : whole ≡ front ++ rest

-- The chunk contains the point, and no other chunk does.
pub record IsOwn (g : Partition) (own : ℕ) (p : Point) : Type 0 where
  pub holds : IsTrue (in_chunk g own p)
  pub only : IsOnlyChunk g own p
