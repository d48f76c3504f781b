-- Compact rows among the others: added, joined, and put in order.
use Rattle.std.proofs.Common.{◌≡◌, ℕ, zero, suc, ◌+◌, ◌-◌, ◌*◌, ◌<◌, ℤ, pos, false, List, [], ◌∷◌, ◌++◌, append_assoc, map, length, take, get_or, Option, Some, None, refl, sym, ap, subst, ◌∙◌, arith, count_by, is_eq, is_lt, IsPermutation, IsSorted}
use Rattle.std.specs.Cmp.{IsTotalOrder}
use Rattle.std.specs.List.{All, AllByRecursion as Each, flat_map}
use Rattle.std.specs.Prelude.{slice_range}
use Rattle.std.proofs.lemmas.Grind.{flat_map-append}
use Rattle.std.proofs.lemmas.Cmp.{int_cmp_total, on_total, then_total}
use Rattle.std.proofs.lemmas.List.{length-map, map-append, take-map, take_more}
use Rattle.std.proofs.lemmas.List.Elements.{All-from_recursion, recursion_from_All}
use Rattle.std.proofs.lemmas.List.Sorted.{All-permutation, IsPermutation-append_left, IsPermutation-map, IsPermutation-middle, IsPermutation-refl, IsPermutation-sym, IsPermutation-to_front, IsPermutation-trans}
use Rattle.answer_rules.specs.declared.rewritten.MergeItem.{MergeItem}
use Rattle.answer_rules.specs.declared.value.Value.{Value}
use Rattle.answer_rules.specs.Finish.{column_value}
use Rattle.answer_rules.specs.InOrder.{first, in_order}
use Rattle.answer_rules.specs.Keeps.{AreApart, KeepsFirst}
use Rattle.answer_rules.specs.Ranks.{row_order}
use Rattle.answer_rules.proofs.Apart.{each_map}
use Rattle.answer_rules.proofs.Ascending.{sorted_ascends}
use Rattle.answer_rules.proofs.Keeping.{keeps_all}
use Rattle.answer_rules.proofs.Orders.{count-append}
use Rattle.answer_rules.proofs.Sorting.{Ascends, only_order}
use Rattle.answer_rules.proofs.Totals.{row_total}
use Rattle.partial_rows.specs.declared.unlimited_rows.UnlimitedRows.{UnlimitedRows}
use Rattle.partial_rows.specs.declared.compact_row.CompactRow.{CompactRow}
use Rattle.partial_rows.specs.declared.ranked.Ranked.{Ranked}
use Rattle.partial_rows.specs.CompactRows.{IsCompactIn, all_of, compact_of, compact_order, compact_values, full}
use Rattle.partial_rows.specs.Rows.{IsIn, moved, row_of}
use Rattle.answer_table.specs.Tables.{IsShort, table_of}
use Rattle.partial_rows.proofs.Growing.{joined_there, rows_joined}
use Rattle.partial_rows.proofs.Tabling.{columns_short}
use Rattle.answer_table.proofs.Tabling.{flat_long, flat_short, flat_table, map_map}

-- ---- one row

abbrev ranked_with : Ranked → ℕ → ℤ → ℕ → Ranked
ranked_with r class value to = record { class = class; value = value; first = r.first; second = r.second; from = r.from; to = to }

full_is : (r : Ranked) (width : ℕ) → r.class ≡ 0 → r.value ≡ pos 0 → r.from + width ≡ r.to → full width (compact_of r) ≡ r
full_is r width c v t =
    ap (λ n. ranked_with r n (pos 0) (r.from + width)) (sym c) ∙ ap (λ z. ranked_with r r.class z (r.from + width)) (sym v) ∙ ap (ranked_with r r.class r.value) t

put_among : (compact rows : List Ranked) (row : Ranked) → IsPermutation ((compact ++ rows) ++ row ∷ []) ((compact ++ row ∷ []) ++ rows)
put_among compact rows row =
    let front : IsPermutation ((compact ++ rows) ++ row ∷ []) (row ∷ (compact ++ rows)) = IsPermutation-to_front (compact ++ rows) row in
    let middle : IsPermutation (compact ++ row ∷ rows) (row ∷ (compact ++ rows)) = IsPermutation-middle compact row rows in
    subst (IsPermutation ((compact ++ rows) ++ row ∷ [])) (sym (append_assoc compact (row ∷ []) rows)) (IsPermutation-trans _ _ _ front (IsPermutation-sym _ _ middle))

-- a row that becomes a compact one
pub compact_put : (l : UnlimitedRows) (r : Ranked) (now : List CompactRow) → IsCompactIn l r → now ≡ l.compact.items ++ compact_of r ∷ [] → IsPermutation (all_of l ++ r ∷ []) (map (full (r.to - r.from)) now ++ l.rows.items)
compact_put l r now h e =
    let w : ℕ = r.to - r.from in
    let wide : r.from + (r.to - r.from) ≡ r.to = omega (arith, h.order) in
    let same : map (full w) now ≡ map (full l.width) l.compact.items ++ r ∷ [] =
    ap (map (full w)) e ∙ map-append (full w) l.compact.items (compact_of r ∷ [])
    ∙ ap (λ rs. rs ++ full w (compact_of r) ∷ []) h.wide
    ∙ ap (λ x. map (full l.width) l.compact.items ++ x ∷ []) (full_is r w h.class h.value wide)
    in
    subst (λ rs. IsPermutation (all_of l ++ r ∷ []) (rs ++ l.rows.items)) (sym same) (put_among (map (full l.width) l.compact.items) l.rows.items r)

-- a row that goes among the others
pub other_put : (l : UnlimitedRows) (r : Ranked) (now : List Ranked) → now ≡ l.rows.items ++ r ∷ [] → IsPermutation (all_of l ++ r ∷ []) (map (full l.width) l.compact.items ++ now)
other_put l r now e =
    subst (IsPermutation (all_of l ++ r ∷ [])) (append_assoc (map (full l.width) l.compact.items) l.rows.items (r ∷ []) ∙ ap (λ rs. map (full l.width) l.compact.items ++ rs) (sym e))
    (IsPermutation-refl (all_of l ++ r ∷ []))

-- ---- the rows of two multisets

-- one more of them is put
pub one_more_put : {X Y : Type 0} (f : X → Y) (start old new : List Y) (xs : List X) (i : ℕ) (d : X) → i < length xs → IsPermutation (start ++ map f (take i xs)) old → IsPermutation (old ++ f (get_or xs i d) ∷ []) new → IsPermutation (start ++ map f (take (i + 1) xs)) new
one_more_put {X} {Y} f start old new xs i d l h k =
    let r : Y = f (get_or xs i d) in
    let longer : map f (take (i + 1) xs) ≡ map f (take i xs) ++ r ∷ [] = ap (map f) (take_more xs i d l) ∙ map-append f (take i xs) (get_or xs i d ∷ []) in
    let both : IsPermutation ((start ++ map f (take i xs)) ++ r ∷ []) (old ++ r ∷ []) = IsPermutation-append_left (r ∷ []) _ _ h in
    subst (λ rs. IsPermutation rs new) (append_assoc start (map f (take i xs)) (r ∷ []) ∙ ap (λ rs. start ++ rs) (sym longer)) (IsPermutation-trans _ _ _ both k)

-- the compact ones and the others are added
both_put : (old mid new : List Ranked) (width by : ℕ) (compact : List CompactRow) (rows : List Ranked) → IsPermutation (old ++ map (λ p. moved by (full width p)) compact) mid → IsPermutation (mid ++ map (moved by) rows) new → IsPermutation (old ++ map (moved by) (map (full width) compact ++ rows)) new
both_put old mid new width by compact rows h k =
    let those : List Ranked = map (λ p. moved by (full width p)) compact in
    let parts : map (moved by) (map (full width) compact ++ rows) ≡ map (λ p. moved by (full width p)) compact ++ map (moved by) rows =
    map-append (moved by) (map (full width) compact) rows ∙ ap (λ rs. rs ++ map (moved by) rows) (map_map (full width) (moved by) compact)
    in
    subst (λ rs. IsPermutation rs new) (append_assoc old those (map (moved by) rows) ∙ ap (λ rs. old ++ rs) (sym parts)) (IsPermutation-trans _ _ _ (IsPermutation-append_left (map (moved by) rows) _ _ h) k)

pub unlimited_put : (given old mid new : List Ranked) (width by count : ℕ) (shown compact : List CompactRow) (others rows : List Ranked) → given ≡ old → shown ≡ compact → others ≡ rows → by ≡ count → IsPermutation (given ++ map (λ p. moved by (full width p)) shown) mid → IsPermutation (mid ++ map (moved by) others) new → IsPermutation (old ++ map (moved count) (map (full width) compact ++ rows)) new
unlimited_put given old mid new width by count shown compact others rows e s o b h k =
    subst (λ n. IsPermutation (old ++ map (moved n) (map (full width) compact ++ rows)) new) b
    (subst (λ (rs : List Ranked). IsPermutation (old ++ map (moved by) (map (full width) compact ++ rs)) new) o
    (subst (λ (ps : List CompactRow). IsPermutation (old ++ map (moved by) (map (full width) ps ++ others)) new) s
    (subst (λ (xs : List Ranked). IsPermutation (xs ++ map (moved by) (map (full width) shown ++ others)) new) e
    (both_put given mid new width by shown others h k))))

pub unlimited_join : (cells more : List (Option ℤ)) (old theirs new : List Ranked) → All (IsIn (length cells)) old → IsPermutation (old ++ map (moved (length cells)) theirs) new → KeepsFirst row_order None (map (row_of cells) old ++ map (row_of more) theirs) (map (row_of (cells ++ more)) new)
unlimited_join cells more old theirs new h p =
    keeps_all row_order None _ _ (subst (λ rs. IsPermutation rs (map (row_of (cells ++ more)) new)) (rows_joined cells more old theirs h) (IsPermutation-map (row_of (cells ++ more)) _ new p))

pub unlimited_there : (cells more : List (Option ℤ)) (old theirs new : List Ranked) → All (IsIn (length cells)) old → All (IsIn (length more)) theirs → IsPermutation (old ++ map (moved (length cells)) theirs) new → All (IsIn (length (cells ++ more))) new
unlimited_there cells more old theirs new h k p = All-permutation (IsIn (length (cells ++ more))) _ new p (joined_there cells more old theirs h k)

-- ---- what holds of each

each_compact : (P : Ranked → Type 0) (width : ℕ) (compact : List CompactRow) (rows : List Ranked) → Each P (map (full width) compact ++ rows) → Each (λ p. P (full width p)) compact
each_compact P width [] rows h = tt
each_compact P width (p ∷ compact) rows h = (h.0, each_compact P width compact rows h.1)

each_other : (P : Ranked → Type 0) (xs rows : List Ranked) → Each P (xs ++ rows) → Each P rows
each_other P [] rows h = h
each_other P (x ∷ xs) rows h = each_other P xs rows h.1

pub compact_hold : (P : Ranked → Type 0) (width : ℕ) (compact : List CompactRow) (rows : List Ranked) → All P (map (full width) compact ++ rows) → All (λ p. P (full width p)) compact
compact_hold P width compact rows h = All-from_recursion (λ p. P (full width p)) compact (each_compact P width compact rows (recursion_from_All P _ h))

pub others_hold : (P : Ranked → Type 0) (xs rows : List Ranked) → All P (xs ++ rows) → All P rows
others_hold P xs rows h = All-from_recursion P rows (each_other P xs rows (recursion_from_All P _ h))

each_first : {X : Type 0} (P : X → Type 0) (limit : Option ℕ) (xs : List X) → Each P xs → Each P (first limit xs)
each_first P None xs h = h
each_first P (Some zero) xs h = tt
each_first P (Some (suc n)) [] h = tt
each_first P (Some (suc n)) (x ∷ xs) h = (h.0, each_first P (Some n) xs h.1)

-- it holds of the first of the sorted ones
pub first_hold : {X : Type 0} (P : X → Type 0) (limit : Option ℕ) (xs sorted : List X) → All P xs → IsPermutation xs sorted → All P (first limit sorted)
first_hold P limit xs sorted h p = All-from_recursion P _ (each_first P limit sorted (recursion_from_All P sorted (All-permutation P xs sorted p h)))

-- the first of rows that are apart are apart
pub front_apart : (cells : List (Option ℤ)) (xs ys : List Ranked) → AreApart row_order (map (row_of cells) (xs ++ ys)) → AreApart row_order (map (row_of cells) xs)
front_apart cells xs ys h x =
    let both : count_by (λ y. is_eq (row_order x y)) (map (row_of cells) (xs ++ ys)) ≡ count_by (λ y. is_eq (row_order x y)) (map (row_of cells) xs) + count_by (λ y. is_eq (row_order x y)) (map (row_of cells) ys) =
    ap (count_by (λ y. is_eq (row_order x y))) (map-append (row_of cells) xs ys) ∙ count-append (λ y. is_eq (row_order x y)) (map (row_of cells) xs) (map (row_of cells) ys)
    in
    omega (arith, h x, both)

-- ---- in order

compact_total : IsTotalOrder compact_order
compact_total = then_total (on_total (λ (p : CompactRow). p.first) int_cmp_total) (on_total (λ (p : CompactRow). p.second) int_cmp_total)

compact_ascend : (cells : List (Option ℤ)) (width : ℕ) (compact : List CompactRow) → Ascends compact_order compact → Ascends row_order (map (row_of cells) (map (full width) compact))
compact_ascend cells width [] h = tt
compact_ascend cells width (p ∷ compact) h = (
  each_map (λ y. is_lt (row_order y (row_of cells (full width p))) ≡ false) (row_of cells) (map (full width) compact)
      (each_map (λ r. is_lt (row_order (row_of cells r) (row_of cells (full width p))) ≡ false) (full width) compact h.0),
  compact_ascend cells width compact h.1,
)

-- sorted compact rows are the rows in order
pub sorted_compact : (cells : List (Option ℤ)) (width : ℕ) (compact sorted : List CompactRow) → AreApart row_order (map (row_of cells) (map (full width) compact)) → IsPermutation compact sorted → IsSorted compact_order sorted → map (row_of cells) (map (full width) sorted) ≡ in_order row_order (map (row_of cells) (map (full width) compact))
sorted_compact cells width compact sorted apart p s =
    only_order row_order row_total (map (row_of cells) (map (full width) compact)) (map (row_of cells) (map (full width) sorted)) apart
    (IsPermutation-map (row_of cells) _ _ (IsPermutation-map (full width) compact sorted p))
    (compact_ascend cells width sorted (sorted_ascends compact_order compact_total sorted s))

-- the first of them
pub first_compact : (cells : List (Option ℤ)) (width : ℕ) (limit : Option ℕ) (compact : List CompactRow) → map (row_of cells) (map (full width) (first limit compact)) ≡ first limit (map (row_of cells) (map (full width) compact))
first_compact cells width None compact = refl
first_compact cells width (Some n) compact = ap (map (row_of cells)) (sym (take-map (full width) n compact)) ∙ sym (take-map (row_of cells) n (map (full width) compact))

-- ---- their table

pub compact_long : (cells : List (Option ℤ)) (items : List MergeItem) (width : ℕ) (compact : List CompactRow) → length (flat_map (compact_values cells items width) compact) ≡ length compact * length items
compact_long cells items width compact = flat_long (compact_values cells items width) (length items) (λ p. length-map items (column_value (row_of cells (full width p)).cells)) compact

pub compact_short : (cells : List (Option ℤ)) (items : List MergeItem) (width : ℕ) (compact : List CompactRow) → All IsShort (flat_map (compact_values cells items width) compact)
compact_short cells items width compact = All-from_recursion IsShort _ (flat_short (compact_values cells items width) (λ p. columns_short (row_of cells (full width p)).cells items) compact)

pub compact_rows : (cells : List (Option ℤ)) (items : List MergeItem) (width : ℕ) (compact : List CompactRow) → table_of (length compact) (length items) (flat_map (compact_values cells items width) compact) ≡ map (λ r. map (column_value r.cells) items) (map (row_of cells) (map (full width) compact))
compact_rows cells items width compact =
    flat_table (compact_values cells items width) (length items) (λ p. length-map items (column_value (row_of cells (full width p)).cells)) compact
    ∙ sym (map_map (row_of cells) (λ r. map (column_value r.cells) items) (map (full width) compact) ∙ map_map (full width) (λ r. map (column_value (row_of cells r).cells) items) compact)

-- the values of one row more
pub one_compact_more : (cells : List (Option ℤ)) (items : List MergeItem) (width : ℕ) (compact : List CompactRow) (i : ℕ) (d : CompactRow) (old new : List Value) (own : List (Option ℤ)) → i < length compact → own ≡ slice_range cells (get_or compact i d).from ((get_or compact i d).from + width) → new ≡ old ++ map (column_value own) items → old ≡ flat_map (compact_values cells items width) (take i compact) → new ≡ flat_map (compact_values cells items width) (take (i + 1) compact)
one_compact_more cells items width compact i d old new own l e f g =
    f ∙ ap (λ vs. vs ++ map (column_value own) items) g ∙ ap (λ cs. flat_map (compact_values cells items width) (take i compact) ++ map (column_value cs) items) e
    ∙ ap (λ vs. flat_map (compact_values cells items width) (take i compact) ++ vs) (sym (append_none (compact_values cells items width (get_or compact i d))))
    ∙ sym (flat_map-append (compact_values cells items width) (take i compact) (get_or compact i d ∷ [])) ∙ ap (flat_map (compact_values cells items width)) (sym (take_more compact i d l))
  where
    append_none : (xs : List Value) → xs ++ [] ≡ xs
    append_none [] = refl
    append_none (x ∷ xs) = ap (λ l. x ∷ l) (append_none xs)
