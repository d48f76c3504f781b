-- The strip of a chunk, and what a subchunk takes of it.
use Rattle.std.proofs.Common.{◌≡◌, ℕ, zero, suc, ◌+◌, ◌-◌, ◌<◌, ◌≤◌, ℤ, pos, ◌+ℤ◌, ◌-ℤ◌, ◌≤ℤ◌, Bool, true, false, not, cond, ◌&&◌, ◌||◌, List, [], ◌∷◌, ◌++◌, length, get_or, slice_get, slice_index_or, slice_range, take, drop, map, filter, int_le, Some, refl, sym, ap, subst, ◌∙◌, arith, IsPermutation, All, AllPairs}
use Rattle.std.specs.List.{range_with_len}
use Rattle.std.proofs.lemmas.Bool.{and_from, and_left, or_left}
use Rattle.std.proofs.lemmas.Int.{ints}
use Rattle.std.proofs.lemmas.List.{map-append, get_or-map, get_or-drop, length-drop, length-map, take_more}
use Rattle.std.proofs.lemmas.List.Elements.{All-append, All-get_or, All-map}
use Rattle.std.proofs.lemmas.List.Filters.{length-filter_both}
use Rattle.std.proofs.lemmas.List.Kept.{AllPairs-filter}
use Rattle.std.proofs.lemmas.List.Sorted.{IsPermutation-sym, IsPermutation-trans, IsPermutation-map, All-permutation, length_permutation}
use Rattle.sky_vector.specs.Points.{IsAdmissible, IsWithin, Point, chord_squared, square}
use Rattle.sky_vector.proofs.Coordinates.{admissible_within}
use Rattle.sky_vector.proofs.Signed.{square_up}
use Rattle.sky_rules.specs.Bounds.{Bounds, in_chunk, in_sub, near_sub, near_sides, sub_bounds_of}
use Rattle.sky_rules.specs.Limits.{IsSky}
use Rattle.sky_rules.specs.Partition.{Partition, chunk_count, sub_count, overlap_at}
use Rattle.sky_rules.proofs.OnlyPlace.{near_enough, sub_lies_in_its_chunk}
use Rattle.table_rules.specs.Objects.{Catalogue, IsCatalogue, IsRow, Obj}
use Rattle.overlap_tables.specs.Overlaps.{in_full_overlap}
use Rattle.chunk_rules.specs.Places.{passes, places_by}
use Rattle.chunk_store.specs.Places.{chunk_rows, full_overlap_rows}
use Rattle.column_lists.specs.Columns.{IsGathered}
use Rattle.sky_row.specs.Columns.{no_row, objects_at}
use Rattle.column_lists.proofs.Gathering.{point_same}
use Rattle.column_lists.proofs.Presence.{gathered_is}
use Rattle.answer_rules.specs.Coverage.{AreInTheSky}
use Rattle.near_join.specs.Strips.{StripView, IsListed, IsChunkStrip, IsSubStrip, IsWhole, height_in, heights_at, in_strip, is_near_row, object_at, row_in}
use Rattle.near_join.specs.Walk.{in_reach, reach_objects}
use Rattle.near_join.specs.Windows.{Ascend, IsBetween}
use Rattle.near_join.proofs.Filters.{each_of_all, filter_of_map, filter_same, filter_twice, filter_part}
use Rattle.near_join.proofs.Listing.{two_kinds}
use Rattle.near_join.proofs.Shuffles.{filter-permutation}

-- ---- rows by their places

-- the element at which the rest of a list begins
rest_at : (objects : List Obj) (a : ℕ) (o : Obj) (rest : List Obj) → drop a objects ≡ o ∷ rest → (slice_get objects a ≡ Some o) × (object_at objects a ≡ o) × (drop (a + 1) objects ≡ rest)
rest_at [] zero o rest e = absurd (cc)
rest_at [] (suc a) o rest e = absurd (cc)
rest_at (x ∷ objects) zero o rest e =
    let first : x ≡ o = cc in
    let later : objects ≡ rest = cc in (ap Some first, first, later)
rest_at (x ∷ objects) (suc a) o rest e =
    let r = rest_at objects a o rest e in
    (r.0, r.1, ap (λ n. drop n (x ∷ objects)) (suc_plus a) ∙ r.2)
  where
    suc_plus : (a : ℕ) → suc a + 1 ≡ suc (a + 1)
    suc_plus a = omega arith

kept_at : (objects : List Obj) (a : ℕ) (o : Obj) (places : List ℕ) (kept : List Obj) (b : Bool) → object_at objects a ≡ o → objects_at objects places ≡ kept
    → objects_at objects (cond b (a ∷ places) places) ≡ cond b (o ∷ kept) kept
kept_at objects a o places kept true e f = ap (λ x. x ∷ objects_at objects places) e ∙ ap (λ l. o ∷ l) f
kept_at objects a o places kept false e f = f

-- the rows, from a place on, that pass a test
places_from : (test : Obj → Bool) (objects : List Obj) (a : ℕ) (rest : List Obj) → drop a objects ≡ rest
    → objects_at objects (filter (λ i. passes test (slice_get objects i)) (range_with_len a (length rest))) ≡ filter test rest
places_from test objects a [] e = refl
places_from test objects a (o ∷ rest) e =
    let r = rest_at objects a o rest e in
    let later : List ℕ = filter (λ i. passes test (slice_get objects i)) (range_with_len (a + 1) (length rest)) in
    ap (λ x. objects_at objects (cond (passes test x) (a ∷ later) later)) r.0
    ∙ kept_at objects a o later (filter test rest) (test o) r.1 (places_from test objects (a + 1) rest r.2)

-- the rows at the places of those that pass a test
pub places_are : (test : Obj → Bool) (objects : List Obj) → objects_at objects (places_by test objects) ≡ filter test objects
places_are test objects = places_from test objects 0 objects refl

-- ---- the strip of a chunk

apart_by : (inside near : Bool) → inside ≡ true → (near && not inside) ≡ false
apart_by true true h = refl
apart_by true false h = refl
apart_by false near h = absurd (cc)

-- the rows of a chunk, and then those of its full overlap
strip_is : (g : Partition) (objects : List Obj) (c : ℕ) → IsPermutation (objects_at objects (chunk_rows g objects c ++ full_overlap_rows g objects c)) (filter (in_strip g c) objects)
strip_is g objects c =
    let held : Obj → Bool = λ o. in_chunk g c o.at in
    let overlap : Obj → Bool = λ o. in_full_overlap g c o.at in
    let parts : objects_at objects (chunk_rows g objects c ++ full_overlap_rows g objects c) ≡ filter held objects ++ filter overlap objects =
    map-append (object_at objects) (chunk_rows g objects c) (full_overlap_rows g objects c)
    ∙ ap (λ l. l ++ objects_at objects (full_overlap_rows g objects c)) (places_are held objects)
    ∙ ap (λ l. filter held objects ++ l) (places_are overlap objects) in
    subst (λ l. IsPermutation l (filter (in_strip g c) objects)) (sym parts)
    (two_kinds held overlap objects (λ o h. apart_by (in_chunk g c o.at) _ h))

-- the heights at places, by the column of all heights
heights_in : (objects : List Obj) (zs : List ℤ) (places : List ℕ) → zs ≡ map (λ o. o.at.z) objects → All (λ p. p < length objects) places
    → map (height_in zs) places ≡ heights_at objects places
heights_in objects zs [] e h = refl
heights_in objects zs (p ∷ places) e h =
    let low : p < length objects = h 0 p (omega arith) in
    let one : height_in zs p ≡ (object_at objects p).at.z = ap (λ l. height_in l p) e ∙ get_or-map (λ (o : Obj). o.at.z) objects p no_row (pos 0) low in
    ap (λ z. z ∷ map (height_in zs) places) one ∙ ap (λ l. (object_at objects p).at.z ∷ l) (heights_in objects zs places e (λ k d l. h (suc k) d (omega (arith, l))))

-- the strip of a chunk, from the places of its rows and of its full overlap
pub chunk_strip_is : (g : Partition) (objects : List Obj) (c : ℕ) (own overlap places : List ℕ) (zs : List ℤ) (s : StripView) → own ≡ chunk_rows g objects c → overlap ≡ full_overlap_rows g objects c
    → zs ≡ map (λ o. o.at.z) objects → IsPermutation (own ++ overlap) places → Ascend (map (height_in zs) places) → s.places ≡ places → IsListed objects s → IsChunkStrip g objects c s
chunk_strip_is g objects c own overlap places zs s e f is p up same listed =
    let moved : IsPermutation (objects_at objects (own ++ overlap)) (objects_at objects s.places) =
    subst (λ l. IsPermutation (objects_at objects (own ++ overlap)) (objects_at objects l)) (sym same) (IsPermutation-map (object_at objects) (own ++ overlap) places p) in
    let both : own ++ overlap ≡ chunk_rows g objects c ++ full_overlap_rows g objects c = ap (λ l. l ++ overlap) e ∙ ap (λ l. chunk_rows g objects c ++ l) f in
    let there = listed.there in
    let heights : map (height_in zs) places ≡ s.zs =
    ap (map (height_in zs)) (sym same) ∙ heights_in objects zs s.places is there ∙ sym listed.zs in
    record {
      all = IsPermutation-trans _ _ _ (IsPermutation-sym _ _ (strip_is g objects c)) (subst (λ l. IsPermutation (objects_at objects l) (objects_at objects s.places)) both moved);
      listed = listed;
      rise = subst Ascend heights up;
    }

-- a strip has no more rows than the table
pub strip_short : (g : Partition) (objects : List Obj) (c : ℕ) (s : StripView) → IsChunkStrip g objects c s → length s.places ≤ length objects
strip_short g objects c s is =
    let same = length_permutation (filter (in_strip g c) objects) (objects_at objects s.places) is.all in
    let wide = length-map s.places (object_at objects) in
    let few = length-filter_both (in_strip g c) (λ o. not (in_strip g c o)) (λ o. refl) objects in omega (arith, same, wide, few)

-- the places of both lists are those of rows
pub both_there : (objects : List Obj) (own overlap places : List ℕ) → All (λ p. p < length objects) own → All (λ p. p < length objects) overlap → IsPermutation (own ++ overlap) places
    → All (λ p. p < length objects) places
both_there objects own overlap places h k p = All-permutation (λ p. p < length objects) (own ++ overlap) places p (All-append (λ p. p < length objects) own overlap h k)

-- ---- columns of rows that lie in the sky

-- columns of rows have one length, and are within the grid where the rows are
pub whole_of : (objects : List Obj) (s : StripView) → ((p : ℕ) → p < length objects → IsWithin (object_at objects p).at.x × IsWithin (object_at objects p).at.y × IsWithin (object_at objects p).at.z)
    → IsListed objects s → IsWhole s
whole_of objects s within listed =
    let there = listed.there in
    record {
      wide_x = ap length listed.xs ∙ length-map s.places (λ p. (object_at objects p).at.x);
      wide_y = ap length listed.ys ∙ length-map s.places (λ p. (object_at objects p).at.y);
      wide_z = ap length listed.zs ∙ length-map s.places (λ p. (object_at objects p).at.z);
      x = subst (All IsWithin) (sym listed.xs) (All-map IsWithin (λ p. (object_at objects p).at.x) s.places (λ k d l. (within (get_or s.places k d) (there k d l)).0));
      y = subst (All IsWithin) (sym listed.ys) (All-map IsWithin (λ p. (object_at objects p).at.y) s.places (λ k d l. (within (get_or s.places k d) (there k d l)).1));
      z = subst (All IsWithin) (sym listed.zs) (All-map IsWithin (λ p. (object_at objects p).at.z) s.places (λ k d l. (within (get_or s.places k d) (there k d l)).2));
    }

pub whole_in_sky : (objects : List Obj) (s : StripView) → AreInTheSky objects → IsListed objects s → IsWhole s
whole_in_sky objects s at listed = whole_of objects s (λ p l. admissible_within (object_at objects p).at (All-get_or (λ (o : Obj). IsAdmissible o.at) objects p no_row l at)) listed

-- the rows of a catalogue lie in the sky
pub in_the_sky : (t : Catalogue) → IsCatalogue t → AreInTheSky t.objects
in_the_sky t is = λ k d l. let row : IsRow (get_or t.objects k d) = is.rows k d l in row.at

-- a column of a table, at places
pub column_at : (objects : List Obj) (f : Obj → ℤ) (values : List ℤ) (places : List ℕ) (found : List ℤ) → values ≡ map f objects → f no_row ≡ pos 0 → All (λ p. p < length objects) places
    → IsGathered values places found → found ≡ map (λ p. f (object_at objects p)) places
column_at objects f values places found is none there gathered =
    gathered_is values places found (pos 0) gathered ∙ each places there
  where
    each : (ps : List ℕ) → All (λ p. p < length objects) ps → map (λ p. get_or values p (pos 0)) ps ≡ map (λ p. f (object_at objects p)) ps
    each [] h = refl
    each (p ∷ ps) h =
        let one : get_or values p (pos 0) ≡ f (object_at objects p) = ap (λ l. get_or l p (pos 0)) is ∙ get_or-map f objects p no_row (pos 0) (h 0 p (omega arith)) in
        ap (λ z. z ∷ map (λ p. get_or values p (pos 0)) ps) one ∙ ap (λ l. f (object_at objects p) ∷ l) (each ps (λ k d l. h (suc k) d (omega (arith, l))))

-- places of rows are places of a column
pub column_there : (objects : List Obj) (f : Obj → ℤ) (values : List ℤ) (places : List ℕ) → values ≡ map f objects → All (λ p. p < length objects) places → All (λ p. p < length values) places
column_there objects f values places is there = λ k d l. let long = ap length is ∙ length-map objects f in let low = there k d l in omega (arith, long, low)

-- the position in a strip is that of the row at its place
pub row_is : (objects : List Obj) (s : StripView) (i : ℕ) → IsListed objects s → i < length s.places → row_in s i ≡ (object_at objects (get_or s.places i 0)).at
row_is objects s i listed low =
    let at : (f : Point → ℤ) (l : List ℤ) → l ≡ map (λ p. f (object_at objects p).at) s.places → get_or l i (pos 0) ≡ f (object_at objects (get_or s.places i 0)).at =
    λ f l e. ap (λ l. get_or l i (pos 0)) e ∙ get_or-map (λ p. f (object_at objects p).at) s.places i 0 (pos 0) low in
    let x = at (λ p. p.x) s.xs listed.xs in
    let y = at (λ p. p.y) s.ys listed.ys in
    let z = at (λ p. p.z) s.zs listed.zs in
    point_same _ _ _ _ _ _ x y z

-- ---- lists that ascend by a number of each

ascend_from : (f : ℕ → ℤ) (places : List ℕ) → Ascend (map f places) → AllPairs (λ p q. f p ≤ℤ f q) places
ascend_from f places up i j d l h =
    let long = length-map places f in
    let first = get_or-map f places i d (f d) (omega (arith, l, h)) in
    let second = get_or-map f places j d (f d) h in
    subst (λ a. a ≤ℤ f (get_or places j d)) first (subst (λ b. get_or (map f places) i (f d) ≤ℤ b) second (up i j (f d) l (omega (arith, long, h))))

ascend_to : (f : ℕ → ℤ) (places : List ℕ) → AllPairs (λ p q. f p ≤ℤ f q) places → Ascend (map f places)
ascend_to f places up i j d l h =
    let long = length-map places f in
    let within : j < length places = omega (arith, long, h) in
    let first : get_or (map f places) i d ≡ f (get_or places i 0) = get_or-map f places i 0 d (omega (arith, l, within)) in
    let second : get_or (map f places) j d ≡ f (get_or places j 0) = get_or-map f places j 0 d within in
    subst (λ a. a ≤ℤ get_or (map f places) j d) (sym first) (subst (λ b. f (get_or places i 0) ≤ℤ b) (sym second) (up i j 0 l within))

-- ---- what a subchunk takes of its chunk's strip

pub no_chord : (u : Point) → chord_squared u u ≡ pos 0
no_chord u =
    let nothing_left : (a : ℤ) → square (a -ℤ a) ≡ pos 0 = λ a. ap square (none a) in
    let x = nothing_left u.x in
    let y = nothing_left u.y in
    let z = nothing_left u.z in omega (arith, ints, x, y, z)
  where
    none : (a : ℤ) → a -ℤ a ≡ pos 0
    none a = omega (arith, ints)

-- what a subchunk holds is in its near region
near_itself : (g : Partition) (c s : ℕ) (u : Point) → IsSky g → c < chunk_count g → s < sub_count g c → in_sub g c s u ≡ true → near_sub g c s u ≡ true
near_itself g c s u sky there below held =
    let none = no_chord u in
    let up = square_up (pos (overlap_at g c)) in
    (near_enough g c s u u sky there below held (omega (arith, ints, none, up))).0

reach_by : (inside near strip : Bool) → (inside ≡ true → near ≡ true) → (inside ≡ true → strip ≡ true) → (inside || (strip && (near && not inside))) ≡ (strip && near)
reach_by true near strip f h = sym (and_from strip near (h refl) (f refl))
reach_by false true true f h = refl
reach_by false false true f h = refl
reach_by false near false f h = refl

-- what a subchunk reaches is what is near it of its chunk and the chunk's full overlap
reach_is : (g : Partition) (objects : List Obj) (c s : ℕ) → IsSky g → c < chunk_count g → s < sub_count g c
    → reach_objects g objects c s ≡ filter (λ o. near_sub g c s o.at) (filter (in_strip g c) objects)
reach_is g objects c s sky there below =
    filter_same (in_reach g c s) (λ o. in_strip g c o && near_sub g c s o.at) objects
    (each_of_all (λ o. in_reach g c s o ≡ (in_strip g c o && near_sub g c s o.at))
    (λ o. reach_by (in_sub g c s o.at) (near_sub g c s o.at) (in_strip g c o) (λ h. near_itself g c s o.at sky there below h)
    (λ h. or_left (in_chunk g c o.at) (in_full_overlap g c o.at) (sub_lies_in_its_chunk g c s o.at sky there below h))) objects)
    ∙ sym (filter_twice (in_strip g c) (λ o. near_sub g c s o.at) objects)

-- outside of the heights between the bounds nothing is near
part_is_enough : (objects : List Obj) (r : ℕ) (bounds : Bounds) (places : List ℕ) (zs : List ℤ) (from to : ℕ) → zs ≡ heights_at objects places → IsBetween zs (bounds.z_low -ℤ pos r) (bounds.z_high +ℤ pos r) from to
    → filter (is_near_row objects r bounds) (slice_range places from to) ≡ filter (is_near_row objects r bounds) places
part_is_enough objects r bounds places zs from to e b =
    let long : length zs ≡ length places = ap length e ∙ length-map places (λ p. (object_at objects p).at.z) in
    let order = b.order in
    let there = b.there in
    let height : (k : ℕ) (d : ℕ) → k < length places → slice_index_or zs k (object_at objects d).at.z ≡ (object_at objects (slice_index_or places k d)).at.z =
    λ k d l. ap (λ l. slice_index_or l k (object_at objects d).at.z) e ∙ get_or-map (λ p. (object_at objects p).at.z) places k d (object_at objects d).at.z l in
    let fails : (k : ℕ) (d : ℕ) → k < length places
    → (int_le (bounds.z_low -ℤ pos r) (slice_index_or zs k (object_at objects d).at.z) && int_le (slice_index_or zs k (object_at objects d).at.z) (bounds.z_high +ℤ pos r)) ≡ false
    → is_near_row objects r bounds (slice_index_or places k d) ≡ false =
    λ k d l h. and_left (int_le (bounds.z_low -ℤ pos r) (object_at objects (slice_index_or places k d)).at.z && int_le (object_at objects (slice_index_or places k d)).at.z (bounds.z_high +ℤ pos r))
    (near_sides r bounds.sides (object_at objects (slice_index_or places k d)).at)
    (subst (λ a. (int_le (bounds.z_low -ℤ pos r) a && int_le a (bounds.z_high +ℤ pos r)) ≡ false) (height k d l) h) in
    filter_part (is_near_row objects r bounds) places from to order (omega (arith, there, long))
    (λ k d a c. fails k d (omega (arith, c, order, there, long)) (b.below k (object_at objects d).at.z a c))
    (λ k d a c. fails k d c (b.above k (object_at objects d).at.z a (omega (arith, c, long))))

-- heights between two, of a column that is another
pub between_moved : (a b : List ℤ) (low high : ℤ) (from to : ℕ) → a ≡ b → IsBetween a low high from to → IsBetween b low high from to
between_moved a b low high from to e h = subst (λ l. IsBetween l low high from to) e h

-- what a subchunk takes of its chunk's strip
pub sub_strip_is : (g : Partition) (objects : List Obj) (c s r : ℕ) (bounds : Bounds) (strip near : StripView) (from to : ℕ) → IsSky g → c < chunk_count g → s < sub_count g c
    → bounds ≡ sub_bounds_of g c s → r ≡ overlap_at g c → IsChunkStrip g objects c strip
    → IsBetween strip.zs (bounds.z_low -ℤ pos r) (bounds.z_high +ℤ pos r) from to → near.places ≡ filter (is_near_row objects r bounds) (slice_range strip.places from to)
    → IsListed objects near → IsSubStrip g objects c s near
sub_strip_is g objects c s r bounds strip near from to sky there below eb er is between taken listed =
    let kept : IsListed objects strip = is.listed in
    let test : Obj → Bool = λ o. near_sub g c s o.at in
    let overlap : ℕ → Bool = λ p. near_sub g c s (object_at objects p).at in
    let near_is : near.places ≡ filter overlap strip.places =
    taken ∙ part_is_enough objects r bounds strip.places strip.zs from to kept.zs between
    ∙ ap (λ k. filter (is_near_row objects k bounds) strip.places) er ∙ ap (λ b. filter (is_near_row objects (overlap_at g c) b) strip.places) eb in
    let rows : objects_at objects near.places ≡ filter test (objects_at objects strip.places) =
    ap (objects_at objects) near_is ∙ sym (filter_of_map test (object_at objects) strip.places) in
    let height : ℕ → ℤ = λ p. (object_at objects p).at.z in
    let up : AllPairs (λ p q. height p ≤ℤ height q) strip.places = ascend_from height strip.places (subst Ascend kept.zs is.rise) in
    record {
      all = subst (λ l. IsPermutation l (objects_at objects near.places)) (sym (reach_is g objects c s sky there below))
          (subst (IsPermutation (filter test (filter (in_strip g c) objects))) (sym rows) (filter-permutation test _ _ is.all));
      listed = listed;
      rise = subst Ascend (sym (listed.zs ∙ ap (heights_at objects) near_is)) (ascend_to height (filter overlap strip.places) (AllPairs-filter (λ p q. height p ≤ℤ height q) overlap strip.places up));
    }

-- ---- a part of a list

-- a part of a list with one element more
pub slice_more : {X : Type 0} (xs : List X) (from i : ℕ) (d : X) → from ≤ i → i < length xs → slice_range xs from (i + 1) ≡ slice_range xs from i ++ get_or xs i d ∷ []
slice_more xs from i d l h =
    let long = length-drop from xs in
    let next : i + 1 - from ≡ (i - from) + 1 = omega (arith, l) in
    let here : from + (i - from) ≡ i = omega (arith, l) in
    ap (λ n. take n (drop from xs)) next ∙ take_more (drop from xs) (i - from) d (omega (arith, long, l, h))
    ∙ ap (λ x. take (i - from) (drop from xs) ++ x ∷ []) (get_or-drop from xs (i - from) d ∙ ap (λ k. get_or xs k d) here)

-- a part without elements
pub slice_none : {X : Type 0} (xs : List X) (from : ℕ) → slice_range xs from from ≡ []
slice_none xs from = ap (λ n. take n (drop from xs)) none
  where
    none : from - from ≡ 0
    none = omega arith
