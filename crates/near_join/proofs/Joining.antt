-- From the pairs of each subchunk to the piece of a chunk.
use Rattle.std.proofs.Common.{◌≡◌, ℕ, ◌+◌, ◌<◌, ℤ, ◌≤ℤ◌, pos, Bool, true, false, ◌&&◌, ◌||◌, List, [], ◌∷◌, ◌++◌, filter, get_or, length, Option, refl, sym, ap, subst, ◌∙◌, arith, IsPermutation}
use Rattle.std.specs.List.{flat_map, range_with_len}
use Rattle.std.proofs.lemmas.List.{append-nil, get_or-map, length-map, map-id}
use Rattle.std.proofs.lemmas.List.Concat.{flat_map-append}
use Rattle.std.proofs.lemmas.List.FromFn.{get_or-range_with_len, length-range_with_len, map-range_with_len_more}
use Rattle.std.proofs.lemmas.List.Sorted.{IsPermutation-refl, IsPermutation-sym, IsPermutation-trans, IsPermutation-map}
use Rattle.sky_vector.specs.Points.{square}
use Rattle.sky_rules.specs.Bounds.{Bounds, in_sub, sub_bounds_of}
use Rattle.sky_rules.specs.Limits.{IsSky}
use Rattle.sky_rules.specs.Partition.{Partition, chunk_count, overlap_at, sub_count}
use Rattle.sql_bound.specs.declared.query.Shape.{Shape}
use Rattle.sql_bound.specs.declared.query.Shape.TheVariants.{Rows, Pairs, Groups}
use Rattle.table_rules.specs.Objects.{Obj}
use Rattle.sky_row.specs.Columns.{objects_at}
use Rattle.value_rules.specs.Sound.{is_paired}
use Rattle.value_rules.specs.Values.{Pick, pair}
use Rattle.chunk_store.specs.Places.{in_sub_overlap, sub_lists, sub_rows}
use Rattle.answer_rules.specs.Coverage.{AreInTheSky}
use Rattle.answer_rules.specs.Picks.{found}
use Rattle.answer_rules.specs.PieceLaws.{empty_view}
use Rattle.answer_rules.specs.Pieces.{PieceView, OfRows, OfGroups, PieceBy, PieceFor, RowsFor, chunk_lines, out_rows}
use Rattle.answer_rules.specs.Ranks.{row_order}
use Rattle.answer_rules.specs.Rows.{limit_of, out_row}
use Rattle.answer_rules.specs.declared.rewritten.ChunkQuery.{ChunkQuery}
use Rattle.answer_rules.proofs.Keeping.{keeps_reordered}
use Rattle.partial_merge.specs.Joining.{IsOfRows}
use Rattle.near_join.specs.Gains.{Gains, held_rows, lines_for, swept_pairs}
use Rattle.near_join.specs.Sound.{limit_in}
use Rattle.near_join.specs.Strips.{StripView, IsSubStrip}
use Rattle.near_join.specs.Walk.{in_reach, joins, pairs_of, reach_objects, sub_objects, sub_pairs, walked_pairs}
use Rattle.near_join.proofs.Gaining.{gains_joined, gains_moved, gains_nothing}
use Rattle.near_join.proofs.Filters.{each_of_all, filter_same, filter_twice}
use Rattle.near_join.proofs.Shuffles.{blocks-permutation, each_block, filter-permutation}
use Rattle.near_join.proofs.Sounding.{paired, wrong}
use Rattle.near_join.proofs.Sweeping.{places_are}
use Rattle.near_join.proofs.Walking.{walk_finds_all}

held_in_reach : (held overlap : Bool) → ((held || overlap) && held) ≡ held
held_in_reach true overlap = refl
held_in_reach false true = refl
held_in_reach false false = refl

-- what a subchunk's bounds hold of its strip are its rows
held_are : (g : Partition) (objects : List Obj) (c s : ℕ) (near : StripView) → IsSubStrip g objects c s near → IsPermutation (sub_objects g objects c s) (held_rows (sub_bounds_of g c s) (objects_at objects near.places))
held_are g objects c s near strip =
    let held : Obj → Bool = λ o. in_sub g c s o.at in
    let reach : List Obj = reach_objects g objects c s in
    let rows : filter held reach ≡ sub_objects g objects c s =
    filter_twice (in_reach g c s) held objects
    ∙ filter_same (λ o. in_reach g c s o && held o) held objects
    (each_of_all (λ o. (in_reach g c s o && held o) ≡ held o) (λ o. held_in_reach (in_sub g c s o.at) (in_sub_overlap g c s o.at)) objects) in
    subst (λ l. IsPermutation l (held_rows (sub_bounds_of g c s) (objects_at objects near.places))) rows
    (filter-permutation held reach (objects_at objects near.places) strip.all)

-- a subchunk's rows, with those of its strip that they join, give the subchunk's pairs
pub gains_sub : (g : Partition) (objects : List Obj) (cq : ChunkQuery) (limit : ℤ) (c s : ℕ) (bounds : Bounds) (near : StripView) (old new : PieceView) → bounds ≡ sub_bounds_of g c s → IsSubStrip g objects c s near
    → Gains cq (swept_pairs cq limit (objects_at objects near.places) (held_rows bounds (objects_at objects near.places))) old new → Gains cq (sub_pairs g objects (joins limit cq.conds) c s) old new
gains_sub g objects cq limit c s bounds near old new is strip gain =
    let test : Obj → Obj → Bool = joins limit cq.conds in
    let reach : List Obj = reach_objects g objects c s in
    let others : List Obj = objects_at objects near.places in
    let each : (u : Obj) → IsPermutation (pairs_of test reach u) (pairs_of test others u) =
    λ u. IsPermutation-map (pair u) _ _ (filter-permutation (test u) reach others strip.all) in
    let pairs = each_block (pairs_of test reach) (pairs_of test others) each (sub_objects g objects c s) in
    let moved = blocks-permutation (pairs_of test others) (sub_objects g objects c s) (held_rows (sub_bounds_of g c s) others) (held_are g objects c s near strip) in
    gains_moved cq (swept_pairs cq limit others (held_rows (sub_bounds_of g c s) others)) (sub_pairs g objects test c s) old new (IsPermutation-sym _ _ (IsPermutation-trans _ _ _ pairs moved))
    (subst (λ b. Gains cq (swept_pairs cq limit others (held_rows b others)) old new) is gain)

-- a subchunk without rows gives none
pub gains_empty : (g : Partition) (objects : List Obj) (cq : ChunkQuery) (limit : ℤ) (c s : ℕ) (old : PieceView) → sub_rows g objects c s ≡ [] → IsOfRows old
    → Gains cq (sub_pairs g objects (joins limit cq.conds) c s) old old
gains_empty g objects cq limit c s old none rows =
    let no : sub_objects g objects c s ≡ [] = sym (places_are (λ o. in_sub g c s o.at) objects) ∙ ap (objects_at objects) none in
    subst (λ l. Gains cq (flat_map (pairs_of (joins limit cq.conds) (reach_objects g objects c s)) l) old old) (sym no) (gains_nothing cq old rows)

-- the pairs of the first n subchunks
abbrev pub walked_below : Partition → List Obj → ChunkQuery → ℤ → ℕ → ℕ → List Pick
walked_below g objects cq limit c n = flat_map (sub_pairs g objects (joins limit cq.conds) c) (range_with_len 0 n)

range_more : (n : ℕ) → range_with_len 0 (n + 1) ≡ range_with_len 0 n ++ n ∷ []
range_more n =
    sym (map-id (range_with_len 0 (n + 1))) ∙ map-range_with_len_more (λ (k : ℕ). k) 0 n n (omega arith) ∙ ap (λ l. l ++ n ∷ []) (map-id (range_with_len 0 n))

-- one subchunk more
pub one_sub_more : (g : Partition) (objects : List Obj) (cq : ChunkQuery) (limit : ℤ) (c n : ℕ) (start old new : PieceView) → Gains cq (walked_below g objects cq limit c n) start old
    → Gains cq (sub_pairs g objects (joins limit cq.conds) c n) old new → Gains cq (walked_below g objects cq limit c (n + 1)) start new
one_sub_more g objects cq limit c n start old new g1 g2 =
    let pairs : ℕ → List Pick = sub_pairs g objects (joins limit cq.conds) c in
    let longer : walked_below g objects cq limit c (n + 1) ≡ walked_below g objects cq limit c n ++ pairs n =
    ap (flat_map pairs) (range_more n) ∙ flat_map-append pairs (range_with_len 0 n) (n ∷ []) ∙ ap (λ l. walked_below g objects cq limit c n ++ l) (append-nil (pairs n)) in
    subst (λ ps. Gains cq ps start new) (sym longer) (gains_joined cq (walked_below g objects cq limit c n) (pairs n) start old new g1 g2)

-- how many lists of subchunks there are
pub subs_count : (g : Partition) (objects : List Obj) (c : ℕ) (subs : List (List ℕ)) → subs ≡ sub_lists g objects c → length subs ≡ sub_count g c
subs_count g objects c subs e = ap length e ∙ length-map (range_with_len 0 (sub_count g c)) (λ s. sub_rows g objects c s) ∙ length-range_with_len 0 (sub_count g c)

-- the list of a subchunk
pub sub_list_is : (g : Partition) (objects : List Obj) (c s : ℕ) → s < sub_count g c → get_or (sub_lists g objects c) s [] ≡ sub_rows g objects c s
sub_list_is g objects c s low =
    get_or-map (λ s. sub_rows g objects c s) (range_with_len 0 (sub_count g c)) s 0 [] (omega (arith, length-range_with_len 0 (sub_count g c), low))
    ∙ ap (sub_rows g objects c) (get_or-range_with_len 0 (sub_count g c) s 0 low ∙ from_none s)
  where
    from_none : (s : ℕ) → 0 + s ≡ s
    from_none s = omega arith

-- the piece before the first subchunk is of rows
pub empty_of_rows : (shape : Shape) (limit : Option ℕ) → is_paired shape ≡ true → empty_view shape limit ≡ OfRows limit []
empty_of_rows Rows limit h = wrong h
empty_of_rows (Pairs l) limit h = refl
empty_of_rows (Groups keys) limit h = wrong h

-- what was kept of the pairs of all subchunks is the piece of the chunk
rows_for : (g : Partition) (objects : List Obj) (cq : ChunkQuery) (c : ℕ) (walked : List Pick) (view : PieceView) → IsPermutation (found g objects cq.shape cq.conds (c ∷ [])) walked
    → Gains cq walked (OfRows (limit_of cq.limit) []) view → RowsFor g objects cq (c ∷ []) view
rows_for g objects cq c walked (OfRows pushed kept) p gain = (
  gain.0,
  keeps_reordered row_order (limit_of cq.limit) (lines_for cq walked) (out_rows g objects cq (c ∷ [])) kept kept
      (IsPermutation-sym _ _ (IsPermutation-map (out_row (chunk_lines cq)) _ walked p)) (IsPermutation-refl kept) gain.1,
)
rows_for g objects cq c walked (OfGroups parts) p gain = absurd gain

pub piece_is : (g : Partition) (objects : List Obj) (cq : ChunkQuery) (c : ℕ) (limit : ℤ) (view : PieceView) → IsSky g → AreInTheSky objects → c < chunk_count g → is_paired cq.shape ≡ true
    → limit ≡ limit_in cq.shape → limit_in cq.shape ≤ℤ square (pos (overlap_at g c))
    → Gains cq (walked_pairs g objects (joins limit cq.conds) c) (empty_view cq.shape (limit_of cq.limit)) view → PieceFor g objects cq (c ∷ []) view
piece_is g objects cq c limit view sky at there is e within gain =
    let law = walk_finds_all g objects limit cq.conds c sky at there (subst (λ l. l ≤ℤ square (pos (overlap_at g c))) (sym e) within) in
    let shape : Pairs limit ≡ cq.shape = ap Pairs e ∙ sym (paired cq.shape is) in
    let found_is : IsPermutation (found g objects cq.shape cq.conds (c ∷ [])) (walked_pairs g objects (joins limit cq.conds) c) =
    subst (λ s. IsPermutation (found g objects s cq.conds (c ∷ [])) (walked_pairs g objects (joins limit cq.conds) c)) shape law in
    let start : Gains cq (walked_pairs g objects (joins limit cq.conds) c) (OfRows (limit_of cq.limit) []) view =
    subst (λ v. Gains cq (walked_pairs g objects (joins limit cq.conds) c) v view) (empty_of_rows cq.shape (limit_of cq.limit) is) gain in
    subst (λ s. PieceBy s g objects cq (c ∷ []) view) shape (rows_for g objects cq c (walked_pairs g objects (joins limit cq.conds) c) view found_is start)
