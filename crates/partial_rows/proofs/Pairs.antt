-- Pairs whose values are their own two ids: in a multiset with other rows, in order, and in a table.
use Rattle.std.proofs.Common.{◌≡◌, ℕ, ◌+◌, ◌-◌, ◌*◌, ◌^◌, ◌<◌, ◌≤◌, ℤ, Bool, true, false, cond, Equal, Greater, Less, List, [], ◌∷◌, ◌++◌, append_assoc, append-nil, map, length, length-append, take, get_or, Option, Some, None, refl, sym, ap, subst, ◌∙◌, arith, count_by, is_eq, is_lt, IsPermutation, IsSorted}
use Rattle.std.specs.Ordering.{nat_cmp, ordering_then}
use Rattle.std.specs.List.{All, AllByRecursion as Each, flat_map}
use Rattle.std.specs.Bool.{OnTrue}
use Rattle.std.specs.Prelude.{◌==◌, ◌≤ℤ◌, IfSome, int_lt, nat_lt}
use Rattle.std.proofs.lemmas.Bool.{ltb-false}
use Rattle.std.proofs.lemmas.Int.{ints}
use Rattle.std.proofs.lemmas.Grind.{flat_map-append}
use Rattle.std.proofs.lemmas.Cmp.{nat_cmp_total}
use Rattle.std.proofs.lemmas.List.{length-map, map-append, take-map, take_more}
use Rattle.std.proofs.lemmas.List.Elements.{All-from_recursion, recursion_from_All}
use Rattle.std.proofs.lemmas.List.Sorted.{IsPermutation-append_comm, IsPermutation-append_left, IsPermutation-append_right, IsPermutation-map, IsPermutation-middle, IsPermutation-refl, IsPermutation-sym, IsPermutation-to_front, IsPermutation-trans, length_permutation}
use Rattle.answer_rules.specs.declared.rewritten.MergeItem.{MergeItem}
use Rattle.answer_rules.specs.declared.rewritten.MergePlan.{MergePlan}
use Rattle.answer_rules.specs.declared.row.OutRow.{OutRow}
use Rattle.answer_rules.specs.declared.value.Value.{Value}
use Rattle.answer_rules.specs.Finish.{column_value, merged_rows}
use Rattle.answer_rules.specs.InOrder.{first, in_order}
use Rattle.answer_rules.specs.Keeps.{AreApart, IsLate, KeepsFirst}
use Rattle.answer_rules.specs.Ranks.{row_order}
use Rattle.answer_rules.specs.Rows.{limit_of}
use Rattle.answer_rules.proofs.Apart.{each_map}
use Rattle.answer_rules.proofs.Ascending.{sorted_ascends}
use Rattle.answer_rules.proofs.Keeping.{first_kept, keeps_all, keeps_joined, keeps_reordered}
use Rattle.answer_rules.proofs.Orders.{count-append, each_weaker}
use Rattle.answer_rules.proofs.Sorting.{Ascends, only_order}
use Rattle.answer_rules.proofs.Totals.{row_total}
use Rattle.partial_rows.specs.declared.row_buffer.RowBuffer.{RowBuffer}
use Rattle.partial_rows.specs.declared.row_buffer.RowBuffer.TheVariants as buffer
use Rattle.partial_rows.specs.declared.rank.Rank.{Rank}
use Rattle.partial_rows.specs.declared.ranked.Ranked.{Ranked}
use Rattle.partial_rows.specs.Multisets.{ComesBeforeNone, IsTooLate, out_row, pushed_in, ranked_at, rows_in}
use Rattle.partial_rows.specs.Rows.{row_of}
use Rattle.partial_rows.specs.Pairs.{first_id_of, pair_row, pair_values, second_id_of}
use Rattle.answer_table.specs.Tables.{IsShort, table_of}
use Rattle.partial_rows.proofs.Putting.{too_late}
use Rattle.partial_rows.proofs.Vacuuming.{keeps_itself, keeps_same}
use Rattle.partial_rows.proofs.Tabling.{columns_short}
use Rattle.answer_table.proofs.Tabling.{flat_long, flat_short, flat_table, map_map}

-- ---- beside the other rows

pub row_among : {X : Type 0} (xs ys : List X) (x : X) → IsPermutation ((xs ++ x ∷ []) ++ ys) ((xs ++ ys) ++ x ∷ [])
row_among xs ys x =
    let front : IsPermutation ((xs ++ ys) ++ x ∷ []) (x ∷ (xs ++ ys)) = IsPermutation-to_front (xs ++ ys) x in
    let middle : IsPermutation (xs ++ x ∷ ys) (x ∷ (xs ++ ys)) = IsPermutation-middle xs x ys in
    subst (λ l. IsPermutation l ((xs ++ ys) ++ x ∷ [])) (sym (append_assoc xs (x ∷ []) ys)) (IsPermutation-trans _ _ _ middle (IsPermutation-sym _ _ front))

pub swap_middle : {X : Type 0} (a b c d : List X) → IsPermutation ((a ++ b) ++ (c ++ d)) ((a ++ c) ++ (b ++ d))
swap_middle a b c d =
    let inner : IsPermutation (b ++ (c ++ d)) (c ++ (b ++ d)) = rw (← append_assoc b c d) (rw (← append_assoc c b d) (IsPermutation-append_left d _ _ (IsPermutation-append_comm b c))) in
    rw (append_assoc a b (c ++ d)) (rw (append_assoc a c (b ++ d)) (IsPermutation-append_right a _ _ inner))

-- pairs in another order
pairs_reordered : (rows : List OutRow) (pairs new : List ℕ) → IsPermutation pairs new → IsPermutation (rows ++ map pair_row pairs) (rows ++ map pair_row new)
pairs_reordered rows pairs new p = IsPermutation-append_right rows _ _ (IsPermutation-map pair_row pairs new p)

-- another row is put
pub row_kept : (limit : Option ℕ) (old new others : List OutRow) (row : OutRow) → KeepsFirst row_order limit (old ++ row ∷ []) new → KeepsFirst row_order limit ((old ++ others) ++ row ∷ []) (new ++ others)
row_kept limit old new others row k =
    keeps_reordered row_order limit _ _ _ _ (row_among old others row) (IsPermutation-refl (new ++ others))
    (keeps_joined row_order limit (old ++ row ∷ []) others new others k (keeps_itself limit others))

-- a pair is put
pub pair_kept : (limit : Option ℕ) (rows : List OutRow) (pairs new : List ℕ) (pair : ℕ) → IsPermutation (pairs ++ pair ∷ []) new → KeepsFirst row_order limit ((rows ++ map pair_row pairs) ++ pair_row pair ∷ []) (rows ++ map pair_row new)
pair_kept limit rows pairs new pair p =
    let last : KeepsFirst row_order limit ((rows ++ map pair_row pairs) ++ pair_row pair ∷ []) (rows ++ map pair_row (pairs ++ pair ∷ [])) =
    keeps_same limit ((rows ++ map pair_row pairs) ++ pair_row pair ∷ []) (rows ++ map pair_row (pairs ++ pair ∷ []))
    (ap (λ l. rows ++ l) (map-append pair_row pairs (pair ∷ [])) ∙ sym (append_assoc rows (map pair_row pairs) (pair_row pair ∷ [])))
    in
    keeps_reordered row_order limit _ _ _ _ (IsPermutation-refl ((rows ++ map pair_row pairs) ++ pair_row pair ∷ [])) (pairs_reordered rows (pairs ++ pair ∷ []) new p) last

-- the rows and the pairs of two multisets
pub both_kept : (limit : Option ℕ) (mine theirs new : List OutRow) (pairs more joined : List ℕ) → KeepsFirst row_order limit (mine ++ theirs) new → IsPermutation (pairs ++ more) joined → KeepsFirst row_order limit ((mine ++ map pair_row pairs) ++ (theirs ++ map pair_row more)) (new ++ map pair_row joined)
both_kept limit mine theirs new pairs more joined k p =
    let pair_rows : List OutRow = map pair_row pairs ++ map pair_row more in
    keeps_reordered row_order limit _ _ _ _ (swap_middle mine theirs (map pair_row pairs) (map pair_row more))
    (subst (λ (l : List OutRow). IsPermutation (new ++ l) (new ++ map pair_row joined)) (map-append pair_row pairs more) (pairs_reordered new (pairs ++ more) joined p))
    (keeps_joined row_order limit (mine ++ theirs) pair_rows new pair_rows k (keeps_itself limit pair_rows))

-- a multiset can be counted
pub multiset_long : (cells : List (Option ℤ)) (ranks : List Ranked) (pairs : List ℕ) → length (map (row_of cells) ranks ++ map pair_row pairs) ≡ length ranks + length pairs
multiset_long cells ranks pairs = omega (arith, length-append (map (row_of cells) ranks) (map pair_row pairs), length-map ranks (row_of cells), length-map pairs pair_row)

pub kept_few : (limit : Option ℕ) (full kept : List OutRow) → KeepsFirst row_order limit full kept → length kept ≤ length full
kept_few limit full kept k = omega (arith, length_permutation full (k.left_out ++ kept) k.all, length-append k.left_out kept)

pub row_few : (cells now : List (Option ℤ)) (limit : Option ℕ) (old new : List Ranked) (pairs : List ℕ) (row : OutRow) (many : ℕ) → many ≡ length (map (row_of cells) old ++ map pair_row pairs) → many + 1 ≤ 2 ^ 64 - 1 → KeepsFirst row_order limit (map (row_of cells) old ++ row ∷ []) (map (row_of now) new) → length new + length pairs ≤ 2 ^ 64 - 1
row_few cells now limit old new pairs row many h l k =
    let fewer : length (map (row_of now) new) ≤ length (map (row_of cells) old ++ row ∷ []) = kept_few limit _ _ k in
    omega (arith, h, l, multiset_long cells old pairs, fewer, length-append (map (row_of cells) old) (row ∷ []), length-map old (row_of cells), length-map new (row_of now))

pub both_few : (cells more now : List (Option ℤ)) (limit : Option ℕ) (mine theirs new : List Ranked) (pairs others joined : List ℕ) (many that : ℕ) → many ≡ length (map (row_of cells) mine ++ map pair_row pairs) → that ≡ length (map (row_of more) theirs ++ map pair_row others) → many + that ≤ 2 ^ 64 - 1 → KeepsFirst row_order limit (map (row_of cells) mine ++ map (row_of more) theirs) (map (row_of now) new) → IsPermutation (pairs ++ others) joined → length new + length joined ≤ 2 ^ 64 - 1
both_few cells more now limit mine theirs new pairs others joined many that h t l k p =
    let fewer : length (map (row_of now) new) ≤ length (map (row_of cells) mine ++ map (row_of more) theirs) = kept_few limit _ _ k in
    omega (arith, h, t, l, multiset_long cells mine pairs, multiset_long more theirs others, fewer, length-append (map (row_of cells) mine) (map (row_of more) theirs), length-map mine (row_of cells), length-map theirs (row_of more), length-map new (row_of now), length-append pairs others, length_permutation (pairs ++ others) joined p)

pub pair_few : (cells : List (Option ℤ)) (rows : List Ranked) (pairs new : List ℕ) (pair many : ℕ) → many ≡ length (map (row_of cells) rows ++ map pair_row pairs) → many + 1 ≤ 2 ^ 64 - 1 → IsPermutation (pairs ++ pair ∷ []) new → length rows + length new ≤ 2 ^ 64 - 1
pair_few cells rows pairs new pair many h l p =
    omega (arith, h, l, multiset_long cells rows pairs, length-append pairs (pair ∷ []), length_permutation (pairs ++ pair ∷ []) new p)

-- a row that is none of the first n
pub late_for_all : (cells : List (Option ℤ)) (rank : Rank) (k : RowBuffer) (pairs : List ℕ) (late : Bool) → OnTrue late (IsTooLate (ranked_at rank 0 0) k)
    → OnTrue late ((values : List (Option ℤ)) → KeepsFirst row_order (pushed_in k) ((rows_in cells k ++ map pair_row pairs) ++ out_row rank values ∷ []) (rows_in cells k ++ map pair_row pairs))
late_for_all cells rank k pairs true h = λ values. row_kept (pushed_in k) (rows_in cells k) (rows_in cells k) (map pair_row pairs) (out_row rank values) (too_late cells values rank k h)
late_for_all cells rank k pairs false h = tt

each_unmap : {X Y : Type 0} (P : Y → Type 0) (f : X → Y) (xs : List X) → Each P (map f xs) → Each (λ x. P (f x)) xs
each_unmap P f [] h = tt
each_unmap P f (x ∷ xs) h = (h.0, each_unmap P f xs h.1)

-- and it is reported as one if n are kept and it comes before none of them
pub reported_late : (cells : List (Option ℤ)) (rank : Rank) (k : RowBuffer) (pairs : List ℕ) (late : Bool)
    → IfSome (pushed_in k) (λ n. pairs ≡ []) → (IsTooLate (ranked_at rank 0 0) k → late ≡ true)
    → IfSome (pushed_in k) (λ n. n ≤ length (rows_in cells k ++ map pair_row pairs) → ComesBeforeNone rank (rows_in cells k ++ map pair_row pairs) → late ≡ true)
reported_late cells rank (buffer.All unlimited) pairs late none reported = tt
reported_late cells rank (buffer.First limit heap) pairs late none reported = λ few before.
    let rows : rows_in cells (buffer.First limit heap) ++ map pair_row pairs ≡ rows_in cells (buffer.First limit heap) = ap (λ (l : List ℕ). rows_in cells (buffer.First limit heap) ++ map pair_row l) none ∙ append-nil (rows_in cells (buffer.First limit heap)) in
    reported (
      omega (arith, few, ap length rows, length-map heap.data.items (row_of cells)),
      each_unmap (λ m. is_lt (row_order (out_row rank []) m) ≡ false) (row_of cells) heap.data.items (subst (ComesBeforeNone rank) rows before),
    )

-- some of the rows that are apart are apart
pub front_apart : (xs ys : List OutRow) → AreApart row_order (xs ++ ys) → AreApart row_order xs
front_apart xs ys h x =
    let both : count_by (λ y. is_eq (row_order x y)) (xs ++ ys) ≡ count_by (λ y. is_eq (row_order x y)) xs + count_by (λ y. is_eq (row_order x y)) ys = count-append (λ y. is_eq (row_order x y)) xs ys in
    omega (arith, h x, both)

pub back_apart : (xs ys : List OutRow) → AreApart row_order (xs ++ ys) → AreApart row_order ys
back_apart xs ys h x =
    let both : count_by (λ y. is_eq (row_order x y)) (xs ++ ys) ≡ count_by (λ y. is_eq (row_order x y)) xs + count_by (λ y. is_eq (row_order x y)) ys = count-append (λ y. is_eq (row_order x y)) xs ys in
    omega (arith, h x, both)

-- with a limit there are no pairs
no_pairs : (pairs : List ℕ) → IsPermutation [] pairs → pairs ≡ []
no_pairs [] p = refl
no_pairs (x ∷ pairs) p = absurd (omega (arith, length_permutation [] (x ∷ pairs) p))

pub none_joined : (limit : Option ℕ) (pairs more joined : List ℕ) → IfSome limit (λ n. pairs ≡ []) → IfSome limit (λ n. more ≡ []) → IsPermutation (pairs ++ more) joined → IfSome limit (λ n. joined ≡ [])
none_joined None pairs more joined h k p = tt
none_joined (Some n) pairs more joined h k p = no_pairs joined (subst (λ (l : List ℕ). IsPermutation l joined) (ap (λ l. l ++ more) h ∙ k) p)

-- ---- put among the other rows

none_late : {X : Type 0} (P : X → Type 0) (xs : List X) → ((x : X) → P x → ⊥) → Each P xs → xs ≡ []
none_late P [] f h = refl
none_late P (x ∷ xs) f h = absurd (f x h.0)

-- without a limit all are kept
pub all_left : (full kept : List OutRow) → KeepsFirst row_order None full kept → IsPermutation full kept
all_left full kept k =
    subst (λ (l : List OutRow). IsPermutation full (l ++ kept)) (none_late (IsLate row_order None kept) k.left_out (λ x h. h) (recursion_from_All (IsLate row_order None kept) k.left_out k.late)) k.all

-- the rows of an answer may come in any order
pub merged_any : (merge : MergePlan) (full kept : List OutRow) → AreApart row_order full → IsPermutation full kept → merged_rows merge kept ≡ merged_rows merge full
merged_any merge full kept h p =
    ap (map (λ (r : OutRow). map (column_value r.cells) merge.items))
    (first_kept row_order row_total (limit_of merge.limit) full kept h (keeps_all row_order (limit_of merge.limit) full kept p))

-- the pairs of a list that is another
pub pairs_read : (rows new : List OutRow) (read pairs : List ℕ) → read ≡ pairs → IsPermutation (rows ++ map pair_row read) new → IsPermutation (rows ++ map pair_row pairs) new
pairs_read rows new read pairs e p = subst (λ (ps : List ℕ). IsPermutation (rows ++ map pair_row ps) new) e p

-- ---- in order

-- an order by two tests that is not Less fails the first
not_less : (p q : Bool) → is_lt (cond p Less (cond q Equal Greater)) ≡ false → p ≡ false
not_less true q h = h
not_less false q h = refl

-- an order by first parts, then by second parts, is not Less if the first is not less, nor the second unless the first is greater
not_before : (p q r s : Bool) → p ≡ false → (q ≡ false → r ≡ false) → is_lt (ordering_then (cond p Less (cond q Greater Equal)) (cond r Less (cond s Greater Equal))) ≡ false
not_before true q r s h k = h
not_before false true r s h k = refl
not_before false false true s h k = k refl
not_before false false false true h k = refl
not_before false false false false h k = refl

-- if y is not below x, then x is at most y
under : (x y : ℤ) → int_lt y x ≡ false → x ≤ℤ y
under x y h = grind (arith, ints)

-- if y is at most x, then x is not below y
not_under : (x y : ℤ) → y ≤ℤ x → int_lt x y ≡ false
not_under x y h = grind (arith, ints)

-- a pair that is not packed into a lesser number than another does not come before it
pub in_order_too : (a b : ℕ) → b ≤ a → is_lt (row_order (pair_row a) (pair_row b)) ≡ false
in_order_too a b le =
    not_before (int_lt (first_id_of a) (first_id_of b)) (int_lt (first_id_of b) (first_id_of a)) (int_lt (second_id_of a) (second_id_of b)) (int_lt (second_id_of b) (second_id_of a))
    (not_under (first_id_of a) (first_id_of b) (omega (arith, ints, le))) (λ k. not_under (second_id_of a) (second_id_of b) (omega (arith, ints, le, under (first_id_of a) (first_id_of b) k)))

-- a number that does not come before another is not below it
pub at_least : (a b : ℕ) → is_lt (nat_cmp a b) ≡ false → b ≤ a
at_least a b h = ltb-false a b (not_less (nat_lt a b) (a == b) h)

-- the pairs of ascending numbers are in order
pairs_ascend : (pairs : List ℕ) → Ascends nat_cmp pairs → Ascends row_order (map pair_row pairs)
pairs_ascend [] h = tt
pairs_ascend (p ∷ pairs) h = (
  each_map (λ y. is_lt (row_order y (pair_row p)) ≡ false) pair_row pairs
      (each_weaker (λ q. is_lt (nat_cmp q p) ≡ false) (λ q. is_lt (row_order (pair_row q) (pair_row p)) ≡ false) (λ q k. in_order_too q p (at_least q p k)) pairs h.0),
  pairs_ascend pairs h.1,
)

-- sorted pairs are the rows in order
pub sorted_pairs : (pairs sorted : List ℕ) → AreApart row_order (map pair_row pairs) → IsPermutation pairs sorted → IsSorted nat_cmp sorted → map pair_row sorted ≡ in_order row_order (map pair_row pairs)
sorted_pairs pairs sorted apart p s =
    only_order row_order row_total (map pair_row pairs) (map pair_row sorted) apart (IsPermutation-map pair_row pairs sorted p)
    (pairs_ascend sorted (sorted_ascends nat_cmp nat_cmp_total sorted s))

-- the first of them
pub first_pairs : (limit : Option ℕ) (pairs : List ℕ) → map pair_row (first limit pairs) ≡ first limit (map pair_row pairs)
first_pairs None pairs = refl
first_pairs (Some n) pairs = sym (take-map pair_row n pairs)

-- ---- their table

pub pairs_long : (items : List MergeItem) (pairs : List ℕ) → length (flat_map (pair_values items) pairs) ≡ length pairs * length items
pairs_long items pairs = flat_long (pair_values items) (length items) (λ p. length-map items (column_value (pair_row p).cells)) pairs

pub pairs_short : (items : List MergeItem) (pairs : List ℕ) → All IsShort (flat_map (pair_values items) pairs)
pairs_short items pairs = All-from_recursion IsShort _ (flat_short (pair_values items) (λ p. columns_short (pair_row p).cells items) pairs)

pub pairs_table : (items : List MergeItem) (pairs : List ℕ) → table_of (length pairs) (length items) (flat_map (pair_values items) pairs) ≡ map (λ r. map (column_value r.cells) items) (map pair_row pairs)
pairs_table items pairs =
    flat_table (pair_values items) (length items) (λ p. length-map items (column_value (pair_row p).cells)) pairs
    ∙ sym (map_map pair_row (λ r. map (column_value r.cells) items) pairs)

-- the values of one more
pub one_more_flat : {X : Type 0} (f : X → List Value) (xs : List X) (i : ℕ) (d : X) (old new : List Value) → i < length xs → new ≡ old ++ f (get_or xs i d) → old ≡ flat_map f (take i xs) → new ≡ flat_map f (take (i + 1) xs)
one_more_flat f xs i d old new l e g =
    e ∙ ap (λ vs. vs ++ f (get_or xs i d)) g ∙ ap (λ vs. flat_map f (take i xs) ++ vs) (sym (append-nil (f (get_or xs i d))))
    ∙ sym (flat_map-append f (take i xs) (get_or xs i d ∷ [])) ∙ ap (flat_map f) (sym (take_more xs i d l))
