-- The blocks of the chunks that hold a row.
use Rattle.std.proofs.Common.{◌≡◌, ℕ, ◌<◌, ◌≤◌, List, [], ◌∷◌, ◌++◌, filter, map, option_to_list, ◌⊎◌, inl, inr, Result, Ok, Err}
use Rattle.std.proofs.Common.{refl, ap, sym, subst, ◌∙◌, arith, length, get_or}
use Rattle.std.specs.Prelude.{All, AllPairs}
use Rattle.std.specs.List.{Contains, range_with_len}
use Rattle.std.specs.Result.{IsOk}
use Rattle.std.specs.List.Sorted.{IsBinarySearchResult}
use Rattle.std.specs.Ordering.{nat_cmp}
use Rattle.std.proofs.lemmas.List.Sorted.{searched}
use Rattle.std.proofs.lemmas.List.Elements.{All-tail}
use Rattle.std.proofs.lemmas.List.{get_or-map, get_or_default}
use Rattle.std.proofs.lemmas.Option.{slice_get-get_or}
use Rattle.table_rules.specs.Objects.{Obj, Catalogue}
use Rattle.sky_row.specs.Columns.{no_row, objects_at}
use Rattle.column_block.specs.Blocks.{Stored}
use Rattle.column_block.proofs.Storing.{stored_same}
use Rattle.sky_rules.specs.Partition.{Partition, chunk_count}
use Rattle.sky_rules.specs.Bounds.{in_chunk}
use Rattle.chunk_rules.specs.Filled.{filled_chunks}
use Rattle.chunk_rules.specs.Places.{rows_at}
use Rattle.chunk_rules.proofs.FilledChunks.{filled_are_chunks}
use Rattle.chunk_rules.proofs.RowsTaken.{rows_at_places}
use Rattle.chunk_store.specs.Lists.{AreLists, block_at, has_some, own_test}
use Rattle.chunk_store.specs.Places.{chunk_block, chunk_rows}
use Rattle.chunk_store.proofs.Ranges.{filter_below, places_there}

-- objects at places of the table are the rows there
objects_taken : (objects : List Obj) (places : List ℕ) → All (λ i. i < length objects) places → objects_at objects places ≡ rows_at objects places
objects_taken objects [] there = refl
objects_taken objects (i ∷ places) there =
    ap (λ l. get_or objects i no_row ∷ l) (objects_taken objects places (All-tail (λ i. i < length objects) i places there))
    ∙ ap (λ o. option_to_list o ++ rows_at objects places) (sym (slice_get-get_or objects i no_row (there 0 0 (omega arith))))

-- those at the places of a chunk's rows are the rows that its region holds
pub chunk_taken : (g : Partition) (objects : List Obj) (c : ℕ) → rows_at objects (chunk_rows g objects c) ≡ filter (λ o. in_chunk g c o.at) objects
chunk_taken g objects c = rows_at_places (λ o. in_chunk g c o.at) objects

block_of_chunk : (g : Partition) (table : Catalogue) (c : ℕ) → block_at table (chunk_rows g table.objects c) ≡ chunk_block g table c
block_of_chunk g table c =
    stored_same _ _ _ _ refl
    (objects_taken table.objects (chunk_rows g table.objects c) (places_there (λ o. in_chunk g c o.at) table.objects) ∙ chunk_taken g table.objects c)

same_maps : (f h : ℕ → Stored) (l : List ℕ) → All (λ c. f c ≡ h c) l → map f l ≡ map h l
same_maps f h [] same = refl
same_maps f h (c ∷ l) same = cc (same 0 0 (omega arith), same_maps f h l (All-tail (λ c. f c ≡ h c) c l same))

-- the blocks at the lists' places are those of the chunks
pub blocks_are : (g : Partition) (table : Catalogue) (lists : List (List ℕ)) → AreLists (own_test g) (chunk_count g) table.objects (length table.objects) lists
    → map (λ c. block_at table (get_or lists c [])) (filled_chunks g table.objects) ≡ map (chunk_block g table) (filled_chunks g table.objects)
blocks_are g table lists are =
    same_maps (λ c. block_at table (get_or lists c [])) (chunk_block g table) (filled_chunks g table.objects)
    (λ k d low. ap (block_at table) (are.each _ (filled_are_chunks g table.objects k d low)) ∙ block_of_chunk g table _)

-- each place of the lists is one of the table
pub lists_there : (g : Partition) (objects : List Obj) (lists : List (List ℕ)) → AreLists (own_test g) (chunk_count g) objects (length objects) lists
    → All (λ list. All (λ i. i < length objects) list) lists
lists_there g objects lists are k d low =
    subst (All (λ i. i < length objects)) (sym (get_or_default lists k d [] low ∙ are.each k (omega (arith, low, are.all))))
    (places_there (own_test g k) objects)

-- numbers that ascend do not fall
pub no_fall : (xs : List ℕ) → AllPairs (λ a b. a < b) xs → (i j : ℕ) → i ≤ j → j < length xs → get_or xs i 0 ≤ get_or xs j 0
no_fall xs up i j le low = by (compare)
  where
    compare : (i < j) ⊎ (i ≡ j)
    compare = grind arith

    by : (i < j) ⊎ (i ≡ j) → get_or xs i 0 ≤ get_or xs j 0
    by (inl lt) = omega (arith, up i j 0 lt low)
    by (inr is) = subst (λ k. get_or xs i 0 ≤ get_or xs k 0) is (omega arith)

-- so a search for one of ascending numbers finds it
pub found : (xs : List ℕ) (x : ℕ) (r : Result ℕ ℕ) → AllPairs (λ a b. a < b) xs → Contains xs x → IsBinarySearchResult (λ y. nat_cmp y x) xs r → IsOk r
found xs x (Ok i) up has h = refl
found xs x (Err i) up has h =
    let gap = searched xs x (Err i) h (no_fall xs up) in
    absurd (by (compare has.0 i) gap.1 gap.2 (get_or_default xs has.0 0 x has.1 ∙ has.2) has.1)
  where
    compare : (k i : ℕ) → (k < i) ⊎ (i ≤ k)
    compare k i = grind arith

    by : {k : ℕ} → (k < i) ⊎ (i ≤ k) → ((k : ℕ) → k < i → get_or xs k 0 < x) → ((k : ℕ) → i ≤ k → k < length xs → x < get_or xs k 0) → get_or xs k 0 ≡ x → k < length xs → ⊥
    by {k} (inl lt) below above is low = omega (arith, below k lt, is)
    by {k} (inr le) below above is low = omega (arith, above k le low, is)

-- the chunks whose list has a place are numbers of lists
pub chunks_there : (lists : List (List ℕ)) (kept : List ℕ) → kept ≡ filter (λ c. has_some (get_or lists c [])) (range_with_len 0 (length lists)) → All (λ c. c < length lists) kept
chunks_there lists kept is = subst (All (λ c. c < length lists)) (sym is) (filter_below (λ c. has_some (get_or lists c [])) (length lists))

-- what is built for them are the blocks that are meant
pub blocks_stored : (g : Partition) (table : Catalogue) (lists : List (List ℕ)) (kept : List ℕ) (columns : List Stored)
    → AreLists (own_test g) (chunk_count g) table.objects (length table.objects) lists → kept ≡ filled_chunks g table.objects
    → columns ≡ map (λ c. block_at table (get_or lists c [])) kept → columns ≡ map (chunk_block g table) (filled_chunks g table.objects)
blocks_stored g table lists kept columns are is built =
    built ∙ (ap (map (λ c. block_at table (get_or lists c []))) is ∙ blocks_are g table lists are)

-- the rows of a block stand at the places of the chunk's rows
pub block_places : (g : Partition) (table : Catalogue) (c : ℕ) (b : Stored) → b ≡ chunk_block g table c → b.objects ≡ rows_at table.objects (chunk_rows g table.objects c)
block_places g table c b is = ap (λ s. s.objects) is ∙ sym (chunk_taken g table.objects c)

-- the block at the slot of a chunk is the chunk's
pub block_at_slot : (g : Partition) (table : Catalogue) (columns : List Stored) (k c : ℕ) (b : Stored) → columns ≡ map (chunk_block g table) (filled_chunks g table.objects)
    → k < length (filled_chunks g table.objects) → get_or (filled_chunks g table.objects) k 0 ≡ c → b ≡ get_or columns k b → b ≡ chunk_block g table c
block_at_slot g table columns k c b is low at own =
    own ∙ (ap (λ l. get_or l k b) is ∙ (get_or-map (chunk_block g table) (filled_chunks g table.objects) k 0 b low ∙ ap (chunk_block g table) at))
