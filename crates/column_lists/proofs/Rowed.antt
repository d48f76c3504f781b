-- Rows as they stand in columns.
use Rattle.std.proofs.Common.{◌≡◌, ◌∙◌, sym, refl, ap, subst, ℕ, ◌+◌, ◌≤◌, ◌<◌, arith, suc, ◌⊎◌, List, [], ◌∷◌, ◌++◌, length, map, Option, None, ℤ, pos, ◌<ℤ◌, AllPairs, get_or}
use mathlib.Core.Logic.{inl, inr}
use Rattle.std.specs.Prelude.{All}
use Rattle.std.specs.List.{range_with_len}
use Rattle.std.proofs.lemmas.List.{length-map, get_or-map, same_lists, length_push, get_or_push, get_or_append_left, get_or_default}
use Rattle.std.proofs.lemmas.List.FromFn.{length-map-range_with_len, get_or-map-range_with_len, map-range_with_len_more}
use Rattle.std.proofs.lemmas.List.Kept.{AllPairs-cons}
use Rattle.std.proofs.lemmas.List.Elements.{All-push}
use Rattle.sky_vector.specs.Points.{IsWithin}
use Rattle.table_rules.specs.Objects.{Obj, Catalogue, IdsAscend, IsCatalogue, IsRow}
use Rattle.column_lists.specs.Columns.{Parts, AreAligned, AreRows, cells_behind, cells_in, objects_of, row_at, row_behind, rows_at}
use Rattle.column_lists.proofs.Gathering.{cells_at, cells_count}
use Rattle.column_lists.proofs.Presence.{same_by_places}
use Rattle.sky_vector.proofs.Coordinates.{admissible_within}
use Rattle.table_rules.specs.declared.limits.TheConstants.{ROWS_MOST}

-- there is a row for each id
pub objects_count : (p : Parts) → length (objects_of p) ≡ length p.ids
objects_count p = length-map-range_with_len (row_at p) 0 (length p.ids)

-- the row at a place
pub object_at : (p : Parts) (i : ℕ) (d : Obj) → i < length p.ids → get_or (objects_of p) i d ≡ row_at p i
object_at p i d low = get_or-map-range_with_len (row_at p) 0 (length p.ids) i i d low (omega arith)

-- a fact of the rows at all places is one of all rows
pub of_each : (P : Obj → Type 0) (p : Parts) → ((i : ℕ) → i < length p.ids → P (row_at p i)) → All P (objects_of p)
of_each P p each = λ i d low.
    let there : i < length p.ids = omega (arith, low, objects_count p) in
    subst P (sym (object_at p i d there)) (each i there)

-- the parts of the rows' positions are coordinates
pub xs_within : (p : Parts) → AreRows p → All IsWithin p.xs
xs_within p are = λ i d low.
    let there : i < length p.ids = omega (arith, low, are.aligned.xs) in
    subst IsWithin (get_or_default p.xs i (pos 0) d low) (admissible_within (row_at p i).at (are.rows i there).at).0

pub ys_within : (p : Parts) → AreRows p → All IsWithin p.ys
ys_within p are = λ i d low.
    let there : i < length p.ids = omega (arith, low, are.aligned.ys) in
    subst IsWithin (get_or_default p.ys i (pos 0) d low) (admissible_within (row_at p i).at (are.rows i there).at).1

pub zs_within : (p : Parts) → AreRows p → All IsWithin p.zs
zs_within p are = λ i d low.
    let there : i < length p.ids = omega (arith, low, are.aligned.zs) in
    subst IsWithin (get_or_default p.zs i (pos 0) d low) (admissible_within (row_at p i).at (are.rows i there).at).2

-- each row is within its limits
pub rows_are : (p : Parts) → AreRows p → All IsRow (objects_of p)
rows_are p are = of_each IsRow p are.rows

-- and has a value for each further column
pub rows_are_wide : (p : Parts) → All (λ o. length o.further ≡ length p.further) (objects_of p)
rows_are_wide p = of_each (λ o. length o.further ≡ length p.further) p (λ i low. length-map p.further (λ column. get_or column i None))

-- ---- a row more

pub obj_same : (a b : Obj) → a.id ≡ b.id → a.at.x ≡ b.at.x → a.at.y ≡ b.at.y → a.at.z ≡ b.at.z → a.further ≡ b.further → a ≡ b
obj_same a b id x y z further =
    ap (λ i. record { id = i; at = a.at; further = a.further }) id
    ∙ (ap (λ i. record { id = b.id; at = record { x = i; y = a.at.y; z = a.at.z }; further = a.further }) x
    ∙ (ap (λ i. record { id = b.id; at = record { x = b.at.x; y = i; z = a.at.z }; further = a.further }) y
    ∙ (ap (λ i. record { id = b.id; at = record { x = b.at.x; y = b.at.y; z = i }; further = a.further }) z
    ∙ ap (λ l. record { id = b.id; at = b.at; further = l }) further)))

-- the values of an earlier row, and of the last one
cells_before : (columns : List (List (Option ℤ))) (cells : List (Option ℤ)) (n i : ℕ) → All (λ column. length column ≡ n) columns → length cells ≡ length columns
    → i < n → cells_in (cells_behind columns cells) i ≡ cells_in columns i
cells_before columns cells n i long wide low =
    same_lists (cells_in (cells_behind columns cells) i) (cells_in columns i)
    (length-map (cells_behind columns cells) (λ column. get_or column i None) ∙ (cells_count columns cells wide ∙ sym (length-map columns (λ column. get_or column i None))))
    (λ k d within.
    let high : k < length (cells_behind columns cells) = omega (arith, within, length-map (cells_behind columns cells) (λ column. get_or column i None)) in
    let there : k < length columns = omega (arith, high, cells_count columns cells wide) in
    let column : i < length (get_or columns k []) = omega (arith, low, long k [] there) in
    get_or-map (λ column. get_or column i None) (cells_behind columns cells) k [] d high
    ∙ (ap (λ column. get_or column i None) (cells_at columns cells k wide there)
    ∙ (get_or_append_left (get_or columns k []) (get_or cells k None ∷ []) None i column
    ∙ sym (get_or-map (λ column. get_or column i None) columns k [] d there))))

cells_last : (columns : List (List (Option ℤ))) (cells : List (Option ℤ)) (n : ℕ) → All (λ column. length column ≡ n) columns → length cells ≡ length columns
    → cells_in (cells_behind columns cells) n ≡ cells
cells_last columns cells n long wide =
    same_lists (cells_in (cells_behind columns cells) n) cells
    (length-map (cells_behind columns cells) (λ column. get_or column n None) ∙ (cells_count columns cells wide ∙ sym wide))
    (λ k d within.
    let high : k < length (cells_behind columns cells) = omega (arith, within, length-map (cells_behind columns cells) (λ column. get_or column n None)) in
    let there : k < length columns = omega (arith, high, cells_count columns cells wide) in
    get_or-map (λ column. get_or column n None) (cells_behind columns cells) k [] d high
    ∙ (ap (λ column. get_or column n None) (cells_at columns cells k wide there)
    ∙ (get_or_push (get_or columns k []) (get_or cells k None) None n (long k [] there)
    ∙ get_or_default cells k None d (omega (arith, there, wide)))))

row_before : (p : Parts) (o : Obj) (i : ℕ) → AreAligned p → length o.further ≡ length p.further → i < length p.ids → row_at (row_behind p o) i ≡ row_at p i
row_before p o i aligned wide low =
    obj_same (row_at (row_behind p o) i) (row_at p i)
    (get_or_append_left p.ids (o.id ∷ []) (pos 0) i low)
    (get_or_append_left p.xs (o.at.x ∷ []) (pos 0) i (omega (arith, low, aligned.xs)))
    (get_or_append_left p.ys (o.at.y ∷ []) (pos 0) i (omega (arith, low, aligned.ys)))
    (get_or_append_left p.zs (o.at.z ∷ []) (pos 0) i (omega (arith, low, aligned.zs)))
    (cells_before p.further o.further (length p.ids) i aligned.further wide low)

row_last : (p : Parts) (o : Obj) (n : ℕ) → AreAligned p → length o.further ≡ length p.further → length p.ids ≡ n → row_at (row_behind p o) n ≡ o
row_last p o n aligned wide here =
    obj_same (row_at (row_behind p o) n) o
    (get_or_push p.ids o.id (pos 0) n here)
    (get_or_push p.xs o.at.x (pos 0) n (aligned.xs ∙ here))
    (get_or_push p.ys o.at.y (pos 0) n (aligned.ys ∙ here))
    (get_or_push p.zs o.at.z (pos 0) n (aligned.zs ∙ here))
    (cells_last p.further o.further n (λ k d low. aligned.further k d low ∙ here) wide)

-- one row more stands behind the others
pub one_more : (p : Parts) (o : Obj) → AreAligned p → length o.further ≡ length p.further → objects_of (row_behind p o) ≡ objects_of p ++ o ∷ []
one_more p o aligned wide =
    ap (λ n. map (row_at (row_behind p o)) (range_with_len 0 n)) (length_push p.ids o.id)
    ∙ (map-range_with_len_more (row_at (row_behind p o)) 0 (length p.ids) (length p.ids) (omega arith)
    ∙ (ap (λ l. l ++ row_at (row_behind p o) (length p.ids) ∷ []) (same_by_places (row_at (row_behind p o)) (row_at p) (length p.ids) (λ i low. row_before p o i aligned wide low))
    ∙ ap (λ last. objects_of p ++ last ∷ []) (row_last p o (length p.ids) aligned wide refl)))

pub aligned_more : (p : Parts) (o : Obj) → AreAligned p → length o.further ≡ length p.further → AreAligned (row_behind p o)
aligned_more p o aligned wide = record {
  xs = omega (arith, length_push p.xs o.at.x, length_push p.ids o.id, aligned.xs);
  ys = omega (arith, length_push p.ys o.at.y, length_push p.ids o.id, aligned.ys);
  zs = omega (arith, length_push p.zs o.at.z, length_push p.ids o.id, aligned.zs);
  further = λ k d low.
      let there : k < length p.further = omega (arith, low, cells_count p.further o.further wide) in
      ap length (get_or_default (cells_behind p.further o.further) k d [] low ∙ cells_at p.further o.further k wide there)
      ∙ omega (arith, length_push (get_or p.further k []) (get_or o.further k None), length_push p.ids o.id, aligned.further k [] there);
}

pub rows_more : (p : Parts) (o : Obj) → AreRows p → IsRow o → length o.further ≡ length p.further → AreRows (row_behind p o)
rows_more p o are is wide = record {
  aligned = aligned_more p o are.aligned wide;
  rows = λ i low. by_place i (compare i) (omega (arith, low, length_push p.ids o.id));
}
  where
    compare : (i : ℕ) → (i < length p.ids) ⊎ (length p.ids ≤ i)
    compare i = grind arith

    by_place : (i : ℕ) → (i < length p.ids) ⊎ (length p.ids ≤ i) → i < length p.ids + 1 → IsRow (row_at (row_behind p o) i)
    by_place i (inl low) high = subst IsRow (sym (row_before p o i are.aligned wide low)) (are.rows i low)
    by_place i (inr last) high = subst IsRow (sym (row_last p o i are.aligned wide (omega (arith, last, high)))) is

-- ---- rows at places

pub row_of_place : (p : Parts) (places : List ℕ) (i : ℕ) → i < length places → row_at (rows_at p places) i ≡ row_at p (get_or places i 0)
row_of_place p places i low =
    obj_same (row_at (rows_at p places) i) (row_at p (get_or places i 0))
    (get_or-map (λ place. get_or p.ids place (pos 0)) places i 0 (pos 0) low)
    (get_or-map (λ place. get_or p.xs place (pos 0)) places i 0 (pos 0) low)
    (get_or-map (λ place. get_or p.ys place (pos 0)) places i 0 (pos 0) low)
    (get_or-map (λ place. get_or p.zs place (pos 0)) places i 0 (pos 0) low)
    (cells_of_place p.further)
  where
    cells_of_place : (columns : List (List (Option ℤ))) → cells_in (map (λ column. map (λ place. get_or column place None) places) columns) i ≡ cells_in columns (get_or places i 0)
    cells_of_place [] = refl
    cells_of_place (column ∷ columns) = cc (get_or-map (λ place. get_or column place None) places i 0 None low, cells_of_place columns)

pub width_at_places : (p : Parts) (places : List ℕ) → length (rows_at p places).further ≡ length p.further
width_at_places p places = length-map p.further (λ column. map (λ place. get_or column place None) places)

pub rows_at_places : (p : Parts) (places : List ℕ) → AreRows p → All (λ place. place < length p.ids) places → AreRows (rows_at p places)
rows_at_places p places are there =
    let long : length (rows_at p places).ids ≡ length places = length-map places (λ place. get_or p.ids place (pos 0)) in
    record {
      aligned = record {
        xs = length-map places (λ place. get_or p.xs place (pos 0)) ∙ sym long;
        ys = length-map places (λ place. get_or p.ys place (pos 0)) ∙ sym long;
        zs = length-map places (λ place. get_or p.zs place (pos 0)) ∙ sym long;
        further = λ k d low.
            let within : k < length p.further = omega (arith, low, width_at_places p places) in
            ap length (get_or-map (λ column. map (λ place. get_or column place None) places) p.further k [] d within)
            ∙ (length-map places (λ place. get_or (get_or p.further k []) place None) ∙ sym long);
      };
      rows = λ i low.
          let at : i < length places = omega (arith, low, long) in
          subst IsRow (sym (row_of_place p places i at)) (are.rows (get_or places i 0) (there i 0 at));
    }

-- places below the count of the rows are places of the ids
pub places_there : (p : Parts) (objects : List Obj) (places : List ℕ) → objects_of p ≡ objects → All (λ place. place < length objects) places → All (λ place. place < length p.ids) places
places_there p objects places is there = λ k d low. omega (arith, there k d low, ap length is, objects_count p)

-- a row above the others goes behind them
pairs_more : (R : Obj → Obj → Type 0) (xs : List Obj) (x : Obj) → AllPairs R xs → All (λ y. R y x) xs → AllPairs R (xs ++ x ∷ [])
pairs_more R [] x pairs low = λ i j d a b. absurd (omega (arith, a, b))
pairs_more R (y ∷ xs) x pairs low =
    AllPairs-cons R y (xs ++ x ∷ [])
    (All-push (R y) xs x (λ k d within. pairs 0 (suc k) d (omega arith) (omega (arith, within))) (low 0 y (omega arith)))
    (pairs_more R xs x (λ i j d a b. pairs (suc i) (suc j) d (omega (arith, a)) (omega (arith, b))) (λ k d within. low (suc k) d (omega (arith, within))))

pub catalogue_more : (c new : Catalogue) (o : Obj) → IsCatalogue c → IsRow o → length o.further ≡ length c.names → length c.objects < ROWS_MOST
    → All (λ earlier. earlier.id <ℤ o.id) c.objects → new.objects ≡ c.objects ++ o ∷ [] → new.names ≡ c.names → IsCatalogue new
catalogue_more c new o are is wide room above objects names = record {
  few_names = omega (arith, are.few_names, ap length names);
  few = omega (arith, room, length_push c.objects o, ap length objects);
  ascend = subst IdsAscend (sym objects) (pairs_more (λ a b. a.id <ℤ b.id) c.objects o are.ascend above);
  wide = subst (λ l. All (λ o. length o.further ≡ length new.names) l) (sym objects)
      (All-push (λ o. length o.further ≡ length new.names) c.objects o
      (λ k d low. are.wide k d low ∙ ap length (sym names)) (wide ∙ ap length (sym names)));
  rows = subst (All IsRow) (sym objects) (All-push IsRow c.objects o are.rows is);
}
