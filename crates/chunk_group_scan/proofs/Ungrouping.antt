-- The groups of one row each, which are put into a piece without being grouped.
use Rattle.std.proofs.Common.{◌≡◌, ◌∙◌, refl, sym, ap, subst, ℕ, ◌+◌, ◌<◌, ◌≤◌, ℤ, arith, Bool, if◌then◌else◌, List, [], ◌∷◌, ◌++◌, Option, Some, get_or, length, map, take}
use Rattle.std.proofs.lemmas.List.{length-map, map-append, map_more}
use Rattle.table_rules.specs.Objects.{Obj}
use Rattle.sql_bound.specs.declared.expr.BoundCol.{BoundCol}
use Rattle.value_rules.specs.Values.{Pick, cell_of, row}
use Rattle.answer_rules.specs.declared.rewritten.ChunkItem.{ChunkItem}
use Rattle.answer_rules.specs.Gather.{Partial, gather, single}
use Rattle.answer_rules.specs.Keys.{Key, key_of, key_order}
use Rattle.answer_rules.specs.Parts.{Part, Sums, add_own_sums, add_sums, count_part, part_over, partials_of, sums_over, way_of}
use Rattle.answer_rules.specs.Small.{rows_in}
use Rattle.answer_rules.proofs.Grouping.{parts_add_up}
use Rattle.answer_rules.proofs.JoinedAlone.{AreOf, gathers}
use Rattle.answer_rules.proofs.PartsAdd.{sums_add, sums_add_up}
use Rattle.answer_rules.proofs.Totals.{key_total, same_keys}
use Rattle.partial_groups.specs.Groups.{Gathered, HaveWays, MayGather, group_by, most_rows}
use Rattle.partial_groups.specs.Ungrouped.{counted_group, counts_of, row_groups}
use Rattle.chunk_group_scan.specs.Ungrouped.{AreCounted, IsCounted}
use Rattle.chunk_group_scan.proofs.Groups.{have_ways, own_ways, rows_of_singles}

-- the first of these values, if there is one
abbrev head_or : Option ℤ → List (Option ℤ) → Option ℤ
head_or d [] = d
head_or d (x ∷ xs) = x

-- the values after the first
abbrev rest_of : List (Option ℤ) → List (Option ℤ)
rest_of [] = []
rest_of (x ∷ xs) = xs

-- one more aggregate that counts each row, or no row
pub counted_more : (items : List ChunkItem) (i : ℕ) (item : ChunkItem) (counted : List Bool) (one : Bool) → i < length items → item ≡ get_or items i item → AreCounted (take i items) counted → IsCounted item one
    → AreCounted (take (i + 1) items) (counted ++ one ∷ [])
counted_more items i item counted one lt is all this = λ p.
    map_more (part_over (p ∷ [])) items i item lt
    ∙ (ap (λ (ps : List Part). ps ++ part_over (p ∷ []) (get_or items i item) ∷ []) (all p)
    ∙ (ap (λ (part : Part). counts_of counted 1 ++ part ∷ []) (ap (part_over (p ∷ [])) (sym is) ∙ this p)
    ∙ sym (map-append (λ (c : Bool). count_part (if c then 1 else 0)) counted (one ∷ []))))

-- the group of a row is that of its value
rows_are : (k : BoundCol) (items : List ChunkItem) (counted : List Bool) (values : List ℤ) (objects : List Obj) → AreCounted items counted → map Some values ≡ map (λ o. cell_of (row o) k) objects
    → row_groups counted values ≡ map (single (key_of (k ∷ [])) (sums_over items)) (map row objects)
rows_are k items counted [] [] h e = refl
rows_are k items counted [] (o ∷ objects) h e = absurd (cc e)
rows_are k items counted (v ∷ values) [] h e = absurd (cc e)
rows_are k items counted (v ∷ values) (o ∷ objects) h e =
    let r : Pick = row o in
    let key : Some v ≡ cell_of r k = ap (head_or (Some v)) e in
    let one : counted_group counted 1 v ≡ single (key_of (k ∷ [])) (sums_over items) r =
    ap (λ (c : Option ℤ). group_by (c ∷ []) 1 (counts_of counted 1)) key ∙ ap (λ (ps : List Part). group_by (cell_of r k ∷ []) 1 ps) (sym (h r)) in
    ap (λ (g : Partial Key Sums). g ∷ row_groups counted values) one
    ∙ ap (λ (gs : Gathered). single (key_of (k ∷ [])) (sums_over items) r ∷ gs) (rows_are k items counted values objects h (ap rest_of e))

singles_are : (k : BoundCol) (items : List ChunkItem) (rows : List Pick) → AreOf items (map (single (key_of (k ∷ [])) (sums_over items)) rows)
singles_are k items [] = tt
singles_are k items (r ∷ rows) = (own_ways (r ∷ []) items, singles_are k items rows)

-- and all of them come to the groups of the rows
pub rows_grouped : (k : BoundCol) (items : List ChunkItem) (counted : List Bool) (values : List ℤ) (objects : List Obj) → AreCounted items counted → map Some values ≡ map (λ o. cell_of (row o) k) objects
    → gather key_order add_own_sums (row_groups counted values) ≡ partials_of (k ∷ []) items (map row objects)
rows_grouped k items counted values objects h e =
    let rows : List Pick = map row objects in
    let singles : Gathered = map (single (key_of (k ∷ [])) (sums_over items)) rows in
    ap (gather key_order add_own_sums) (rows_are k items counted values objects h e)
    ∙ (gathers items singles (singles_are k items rows)).same
    ∙ sym (parts_add_up key_order (add_sums items) key_total same_keys (sums_add items) (key_of (k ∷ [])) (sums_over items) (sums_add_up items) rows)

-- a piece without groups may take them
pub rows_may : (k : BoundCol) (items : List ChunkItem) (counted : List Bool) (values : List ℤ) (objects : List Obj) → AreCounted items counted → map Some values ≡ map (λ o. cell_of (row o) k) objects
    → length objects ≤ most_rows → MayGather [] (row_groups counted values)
rows_may k items counted values objects h e few =
    let rows : List Pick = map row objects in
    let singles : Gathered = map (single (key_of (k ∷ [])) (sums_over items)) rows in
    let are : row_groups counted values ≡ singles = rows_are k items counted values objects h e in
    record {
      own = map way_of items;
      this = tt;
      that = subst (HaveWays (map way_of items)) (sym are) (have_ways items singles (singles_are k items rows));
      few = omega (arith, few, ap rows_in are, rows_of_singles (k ∷ []) items rows, length-map objects row);
    }
