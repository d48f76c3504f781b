-- The chunks of rows, and the chunk of the row that has an id.
use Rattle.std.proofs.Common.{◌≡◌, ◌∙◌, ⊎_elim, ap, sym, subst, refl, below_more, ℕ, ◌+◌, ◌<◌, List, [], ◌∷◌, ◌++◌, length, map, get_or, Some, ℤ, pos, ◌+ℤ◌, ◌-ℤ◌, ◌≤ℤ◌, arith}
use Rattle.std.specs.Prelude.{unsigned_abs}
use Rattle.std.proofs.lemmas.Int.{ints}
use Rattle.std.proofs.lemmas.List.{get_or-map, get_or_append_left, get_or_push, length-map, length_push}
use Rattle.std.proofs.Math.Nat.{eq-or-lt_of_le}
use Rattle.sky_rules.specs.Partition.{Partition}
use Rattle.table_rules.specs.Objects.{Obj, IdsAscend}
use Rattle.sky_row.specs.Columns.{no_row}
use Rattle.object_index.proofs.Ascending.{found}
use Rattle.source_store.specs.NumbersByChunk.{LeadsTo}
use Rattle.source_store.specs.RowChunks.{AreConsecutive, AreRowChunks, IsChunkOf}
use Rattle.source_store.proofs.Leading.{leads_to_one}

-- one row more
pub rows_more : (g : Partition) (objects : List Obj) (n : ℕ) (chunks new : List ℕ) (chunk : ℕ) → AreRowChunks g objects n chunks
    → new ≡ chunks ++ chunk ∷ [] → IsChunkOf g (get_or objects n no_row).at chunk → AreRowChunks g objects (n + 1) new
rows_more g objects n chunks new chunk are is one = record { all = ap length is ∙ (length_push chunks chunk ∙ ap (λ k. k + 1) are.all); each = at }
  where
    last : get_or new n 0 ≡ chunk
    last = ap (λ (l : List ℕ). get_or l n 0) is ∙ get_or_push chunks chunk 0 n are.all

    at : (row : ℕ) → row < n + 1 → IsChunkOf g (get_or objects row no_row).at (get_or new row 0)
    at row low =
        ⊎_elim
        (λ same. subst (λ k. IsChunkOf g (get_or objects k no_row).at (get_or new k 0)) (sym same)
        (subst (IsChunkOf g (get_or objects n no_row).at) (sym last) one))
        (λ before. subst (IsChunkOf g (get_or objects row no_row).at)
        (sym (ap (λ (l : List ℕ). get_or l row 0) is ∙ get_or_append_left chunks (chunk ∷ []) 0 row (omega (arith, before, are.all)))) (are.each row before))
        (eq-or-lt_of_le (omega (arith, low)))

-- an id that is not below another is so far above it
pub so_far_above : (first id : ℤ) (k : ℕ) → first ≤ℤ id → k ≡ unsigned_abs (id -ℤ first) → first +ℤ pos k ≡ id
so_far_above first id k low is = grind (arith, ints)

-- the id of one row more
pub consecutive_more : (objects : List Obj) (n : ℕ) (first : ℤ) → AreConsecutive objects n first → first +ℤ pos n ≡ (get_or objects n no_row).id
    → AreConsecutive objects (n + 1) first
consecutive_more objects n first are one = record { each = below_more (λ row. first +ℤ pos row ≡ (get_or objects row no_row).id) n are.each one }

-- the row that is as far from the first one has the id
pub row_has : (objects : List Obj) (n : ℕ) (first id : ℤ) (row : ℕ) → AreConsecutive objects n first → row < n → first +ℤ pos row ≡ id
    → (get_or objects row no_row).id ≡ id
row_has objects n first id row are low far = sym (are.each row low) ∙ far

-- an id that a row has leads to that row's chunk
pub leads_by_row : (g : Partition) (objects : List Obj) (chunks : List ℕ) (id : ℤ) (row : ℕ) → IdsAscend objects → AreRowChunks g objects (length objects) chunks
    → row < length objects → (get_or objects row no_row).id ≡ id → LeadsTo g objects id (Some (get_or chunks row 0))
leads_by_row g objects chunks id row up are low has =
    let chunk = are.each row low in
    let ids : List ℤ = map (λ o. o.id) objects in
    leads_to_one g objects id (get_or chunks row 0) row (record {
      object = get_or objects row no_row;
      is = found objects ids id row refl up (record {
        there = omega (arith, low, length-map objects (λ o. o.id));
        has = get_or-map (λ o. o.id) objects row no_row (pos 0) low ∙ has;
      });
      there = chunk.there;
      holds = chunk.holds;
      only = chunk.only;
    })
