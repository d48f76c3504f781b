-- Sources in columns. A source is seen as a row whose x, y and z are the id of its object, so that what holds of rows in
-- columns holds of sources.
use Rattle.std.proofs.Common.{◌≡◌, ◌∙◌, sym, refl, ap, ap₂, subst, ℕ, ◌+◌, ◌-◌, ◌≤◌, ◌<◌, arith, suc, zero, false, List, [], ◌∷◌, ◌++◌, length, map, Option, None, Result, Ok, Err, ℤ, pos, get_or}
use Rattle.std.specs.Prelude.{All, OnOk, ◌==◌}
use Rattle.std.specs.List.{range_with_len}
use Rattle.std.proofs.lemmas.List.{length-map, get_or-map, length-append, length_push, map-append, get_or_default, length-replicate, get_or-replicate}
use Rattle.std.proofs.lemmas.List.FromFn.{length-map-range_with_len, get_or-map-range_with_len}
use Rattle.std.proofs.lemmas.List.Elements.{All-append, All-push}
use Rattle.std.proofs.lemmas.Simd.{map-map}
use Rattle.table_rules.specs.Objects.{Obj, cell}
use Rattle.table_rules.specs.declared.limits.TheConstants.{FURTHER_COLUMNS_MOST, ROWS_MOST}
use Rattle.column_lists.specs.Columns.{Parts, AreAligned, columns_appended, objects_of, row_at}
use Rattle.sky_row.specs.Columns.{AreAscending, no_row}
use Rattle.column_lists.proofs.Appended.{behind_count, column_behind, objects_behind}
use Rattle.column_lists.proofs.Gathering.{cells_are, cells_count}
use Rattle.column_lists.proofs.Rowed.{aligned_more, one_more}
use Rattle.sky_row.proofs.Rowed.{objects_are, ids_are as row_ids, xs_are, column_is as row_column}
use Rattle.source_rules.specs.Sources.{Source, IsSource, IsSourceTable, source_cell}
use Rattle.source_row.specs.SourceColumns.{SourceParts, AreEven, AreSourceColumns, no_source, no_sources, parts_appended, parts_at, source_at, source_behind, source_column, sources_at, sources_in}

-- a source as a row, and back
abbrev to_row : Source → Obj
to_row s = record { id = s.id; at = record { x = s.object; y = s.object; z = s.object }; further = s.further }

abbrev to_source : Obj → Source
to_source o = record { id = o.id; object = o.at.x; further = o.further }

abbrev to_parts : SourceParts → Parts
to_parts p = record { ids = p.ids; xs = p.objects; ys = p.objects; zs = p.objects; further = p.further }

-- the columns as rows
abbrev rows_in : SourceParts → List Obj
rows_in p = objects_of (to_parts p)

sources_are : (p : SourceParts) → map to_source (rows_in p) ≡ sources_in p
sources_are p = map-map to_source (row_at (to_parts p)) (range_with_len 0 (length p.ids))

aligned : (p : SourceParts) → AreEven p → AreAligned (to_parts p)
aligned p even = record { xs = even.objects; ys = even.objects; zs = even.objects; further = even.further }

even_of : (p : SourceParts) → AreAligned (to_parts p) → AreEven p
even_of p are = record { objects = are.xs; further = are.further }

-- there is a source for each id
pub sources_count : (p : SourceParts) → length (sources_in p) ≡ length p.ids
sources_count p = length-map-range_with_len (source_at p) 0 (length p.ids)

-- the source with a number
pub source_there : (p : SourceParts) (i : ℕ) (d : Source) → i < length p.ids → get_or (sources_in p) i d ≡ source_at p i
source_there p i d low = get_or-map-range_with_len (source_at p) 0 (length p.ids) i i d low (omega arith)

-- what holds of the source with each number holds of all sources, and back
pub of_each : (P : Source → Type 0) (p : SourceParts) → ((i : ℕ) → i < length p.ids → P (source_at p i)) → All P (sources_in p)
of_each P p each = λ i d low.
    let there : i < length p.ids = omega (arith, low, sources_count p) in
    subst P (sym (source_there p i d there)) (each i there)

of_all : (P : Source → Type 0) (p : SourceParts) → All P (sources_in p) → (i : ℕ) → i < length p.ids → P (source_at p i)
of_all P p all i low = subst P (source_there p i no_source low) (all i no_source (omega (arith, low, sources_count p)))

-- what sources have is what their rows have
by_rows : {X : Type 0} (f : Source → X) (p : SourceParts) → map (λ o. f (to_source o)) (rows_in p) ≡ map f (sources_in p)
by_rows f p = sym (map-map f to_source (rows_in p)) ∙ ap (map f) (sources_are p)

pub ids_are : (p : SourceParts) → p.ids ≡ map (λ s. s.id) (sources_in p)
ids_are p = row_ids (to_parts p) ∙ by_rows (λ s. s.id) p

pub objects_are_ids : (p : SourceParts) → AreEven p → p.objects ≡ map (λ s. s.object) (sources_in p)
objects_are_ids p even = xs_are (to_parts p) (aligned p even) ∙ by_rows (λ s. s.object) p

-- an extra value of a source is that of its row
same_cell : (k : ℕ) (o : Obj) → cell o (4 + k) ≡ source_cell (to_source o) (2 + k)
same_cell k o =
    let a : (4 + k == 0) ≡ false = grind arith in
    let b : (4 + k == 1) ≡ false = grind arith in
    let c : (4 + k == 2) ≡ false = grind arith in
    let d : (4 + k == 3) ≡ false = grind arith in
    let e : 4 + k - 4 ≡ k = omega arith in
    let f : (2 + k == 0) ≡ false = grind arith in
    let g : (2 + k == 1) ≡ false = grind arith in
    let h : 2 + k - 2 ≡ k = omega arith in
    rw (a, b, c, d, e, f, g, h) refl

map_same : {X Y : Type 0} (f g : X → Y) (xs : List X) → ((x : X) → f x ≡ g x) → map f xs ≡ map g xs
map_same f g [] same = refl
map_same f g (x ∷ xs) same = cc (same x, map_same f g xs same)

pub column_is : (p : SourceParts) (k : ℕ) → AreEven p → k < length p.further → get_or p.further k [] ≡ source_column (sources_in p) (2 + k)
column_is p k even there =
    row_column (to_parts p) k (aligned p even) there
    ∙ (map_same (λ o. cell o (4 + k)) (λ o. source_cell (to_source o) (2 + k)) (rows_in p) (same_cell k) ∙ by_rows (λ s. source_cell s (2 + k)) p)

-- columns are the same if each is
pub parts_same : (a b : SourceParts) → a.ids ≡ b.ids → a.objects ≡ b.objects → a.further ≡ b.further → a ≡ b
parts_same a b ids objects further =
    ap (λ l. record { ids = l; objects = a.objects; further = a.further }) ids
    ∙ (ap (λ l. record { ids = b.ids; objects = l; further = a.further }) objects
    ∙ ap (λ l. record { ids = b.ids; objects = b.objects; further = l }) further)

-- each column has the source's value
pub pushed : {A E : Type 0} (r : Result A E) (old kept new : SourceParts) (id object : ℤ) (cells : List (Option ℤ)) → kept ≡ old → length cells ≡ length old.further
    → new.ids ≡ kept.ids ++ id ∷ [] → new.objects ≡ kept.objects ++ object ∷ [] → length new.further ≡ length kept.further
    → OnOk r ((k : ℕ) → k < length kept.further → get_or new.further k [] ≡ get_or kept.further k [] ++ get_or cells k None ∷ [])
    → OnOk r (new ≡ source_behind old (record { id = id; object = object; further = cells }))
pushed {A} {E} (Err e) old kept new id object cells is wide ids objects count each = tt
pushed {A} {E} (Ok a) old kept new id object cells is wide ids objects count each =
    subst (λ old. new ≡ source_behind old (record { id = id; object = object; further = cells })) is (
    parts_same new (source_behind kept (record { id = id; object = object; further = cells })) ids objects
    (cells_are kept.further new.further cells (wide ∙ sym (ap (λ p. length p.further) is)) count each))

pub no_columns : (names : List (List ℕ)) (width : ℕ) → length names ≤ FURTHER_COLUMNS_MOST → width ≡ length names → AreSourceColumns names (no_sources width)
no_columns names width few same = record {
  few_names = few;
  few = omega arith;
  wide = length-replicate width [] ∙ same;
  even = record { objects = refl; further = λ k d low. ap length (get_or-replicate width k [] d (omega (arith, low, length-replicate {A = List (Option ℤ)} width []))) };
  rows = λ i low. absurd (omega (arith, low));
}

-- one more source is after the others
pub one_source_more : (p : SourceParts) (s : Source) → AreEven p → length s.further ≡ length p.further → sources_in (source_behind p s) ≡ sources_in p ++ s ∷ []
one_source_more p s even wide =
    sym (sources_are (source_behind p s))
    ∙ (ap (map to_source) (one_more (to_parts p) (to_row s) (aligned p even) wide)
    ∙ (map-append to_source (rows_in p) (to_row s ∷ []) ∙ ap (λ l. l ++ s ∷ []) (sources_are p)))

pub columns_more : (names : List (List ℕ)) (p : SourceParts) (s : Source) → AreSourceColumns names p → IsSource s → length s.further ≡ length names → length p.ids < ROWS_MOST
    → AreSourceColumns names (source_behind p s)
columns_more names p s are is wide room = record {
  few_names = are.few_names;
  few = omega (arith, room, length_push p.ids s.id);
  wide = cells_count p.further s.further (wide ∙ sym are.wide) ∙ are.wide;
  even = even_of (source_behind p s) (aligned_more (to_parts p) (to_row s) (aligned p are.even) (wide ∙ sym are.wide));
  rows = of_all IsSource (source_behind p s) (subst (All IsSource) (sym (one_source_more p s are.even (wide ∙ sym are.wide)))
      (All-push IsSource (sources_in p) s (of_each IsSource p are.rows) is));
}

-- the sources of both are those of the first, followed by those of the second
pub sources_of_both : (p q : SourceParts) → AreEven p → length q.further ≡ length p.further → sources_in (parts_appended p q) ≡ sources_in p ++ sources_in q
sources_of_both p q even wide =
    sym (sources_are (parts_appended p q))
    ∙ (ap (map to_source) (objects_behind (to_parts p) (to_parts q) (aligned p even) wide)
    ∙ (map-append to_source (rows_in p) (rows_in q) ∙ ap₂ ◌++◌ (sources_are p) (sources_are q)))

even_of_both : (p q : SourceParts) → AreEven p → AreEven q → length q.further ≡ length p.further → AreEven (parts_appended p q)
even_of_both p q a b wide = record {
  objects = omega (arith, length-append p.objects q.objects, length-append p.ids q.ids, a.objects, b.objects);
  further = λ k d low.
      let there : k < length p.further = omega (arith, low, behind_count p.further q.further) in
      ap length (get_or_default (columns_appended p.further q.further) k d [] low ∙ column_behind p.further q.further k wide there)
      ∙ omega (arith, length-append (get_or p.further k []) (get_or q.further k []), length-append p.ids q.ids, a.further k [] there, b.further k [] (omega (arith, there, wide)));
}

-- and they are columns under the names
pub columns_of_both : (names : List (List ℕ)) (p q : SourceParts) → AreSourceColumns names p → AreSourceColumns names q → length p.ids + length q.ids ≤ ROWS_MOST
    → AreSourceColumns names (parts_appended p q)
columns_of_both names p q a b few =
    let wide : length q.further ≡ length p.further = b.wide ∙ sym a.wide in
    record {
      few_names = a.few_names;
      few = omega (arith, few, length-append p.ids q.ids);
      wide = behind_count p.further q.further ∙ a.wide;
      even = even_of_both p q a.even b.even wide;
      rows = of_all IsSource (parts_appended p q) (subst (All IsSource) (sym (sources_of_both p q a.even wide))
          (All-append IsSource (sources_in p) (sources_in q) (of_each IsSource p a.rows) (of_each IsSource q b.rows)));
    }

-- the source with a number is that of the row with the number
same_source : (rows : List Obj) (place : ℕ) → to_source (get_or rows place no_row) ≡ get_or (map to_source rows) place no_source
same_source [] place = refl
same_source (o ∷ rows) zero = refl
same_source (o ∷ rows) (suc place) = same_source rows place

pub sources_at_places : (p : SourceParts) (places : List ℕ) → All (λ place. place < length p.ids) places → sources_in (parts_at p places) ≡ sources_at (sources_in p) places
sources_at_places p places there =
    sym (sources_are (parts_at p places))
    ∙ (ap (map to_source) (objects_are (to_parts p) places there)
    ∙ (map-map to_source (λ place. get_or (rows_in p) place no_row) places
    ∙ (map_same (λ place. to_source (get_or (rows_in p) place no_row)) (λ place. get_or (map to_source (rows_in p)) place no_source) places (same_source (rows_in p))
    ∙ ap (λ l. sources_at l places) (sources_are p))))

-- there are as many extra columns
pub wide_at_places : (p : SourceParts) (places : List ℕ) → length (parts_at p places).further ≡ length p.further
wide_at_places p places = length-map p.further (λ column. map (λ place. get_or column place None) places)

-- the columns are of one length
pub even_at_places : (p : SourceParts) (places : List ℕ) → AreEven p → AreEven (parts_at p places)
even_at_places p places even =
    let long : length (parts_at p places).ids ≡ length places = length-map places (λ place. get_or p.ids place (pos 0)) in
    record {
      objects = length-map places (λ place. get_or p.objects place (pos 0)) ∙ sym long;
      further = λ k d low.
          let within : k < length p.further = omega (arith, low, wide_at_places p places) in
          ap length (get_or-map (λ column. map (λ place. get_or column place None) places) p.further k [] d within)
          ∙ (length-map places (λ place. get_or (get_or p.further k []) place None) ∙ sym long);
    }

pub columns_at_places : (names : List (List ℕ)) (p : SourceParts) (places : List ℕ) → AreSourceColumns names p → All (λ place. place < length p.ids) places → length places ≤ ROWS_MOST
    → AreSourceColumns names (parts_at p places)
columns_at_places names p places are there few = record {
  few_names = are.few_names;
  few = omega (arith, length-map places (λ place. get_or p.ids place (pos 0)), few);
  wide = wide_at_places p places ∙ are.wide;
  even = even_at_places p places are.even;
  rows = of_all IsSource (parts_at p places) (subst (All IsSource) (sym (sources_at_places p places there)) (λ i d low.
      let at : i < length places = omega (arith, low, length-map places (λ place. get_or (sources_in p) place no_source)) in
      let within : get_or places i 0 < length p.ids = there i 0 at in
      subst IsSource (sym (get_or-map (λ place. get_or (sources_in p) place no_source) places i 0 d at))
      (of_each IsSource p are.rows (get_or places i 0) no_source (omega (arith, within, sources_count p)))));
}

-- sources whose ids ascend are a table
pub table_is : (names : List (List ℕ)) (p : SourceParts) → AreSourceColumns names p → AreAscending p.ids → IsSourceTable (record { names = names; sources = sources_in p })
table_is names p are up = record {
  few_names = are.few_names;
  few = omega (arith, are.few, sources_count p);
  ascend = λ i j d low within.
      let there : j < length p.ids = omega (arith, within, sources_count p) in
      rw (source_there p i d (omega (arith, low, there)), source_there p j d there) (up i j (pos 0) low there);
  wide = of_each (λ s. length s.further ≡ length names) p (λ i low. length-map p.further (λ column. get_or column i None) ∙ are.wide);
  rows = of_each IsSource p are.rows;
}
