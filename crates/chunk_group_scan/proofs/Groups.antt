-- Groups that are put into a piece one by one.
use Rattle.std.proofs.Common.{◌≡◌, ◌∙◌, refl, sym, ap, subst, ℕ, ◌+◌, ◌≤◌, arith, Bool, true, false, cond, List, [], ◌∷◌, ◌++◌, length, filter, get_or, map}
use Rattle.std.specs.Prelude.{All}
use Rattle.std.specs.List.{AllByRecursion}
use Rattle.std.proofs.lemmas.List.Sums.{sum_by-cons}
use Rattle.std.specs.declared.cmp.Ordering.{Ordering}
use Rattle.std.specs.declared.cmp.Ordering.TheVariants.{Less, Equal, Greater}
use Rattle.std.specs.Ordering.{is_eq, ordering_reverse}
use Rattle.std.proofs.lemmas.List.Elements.{All-head, All-tail}
use Rattle.std.specs.List.Sorted.{IsPermutation}
use Rattle.std.proofs.lemmas.List.Sorted.{IsPermutation-map}
use Rattle.table_rules.specs.Objects.{Obj}
use Rattle.sky_row.specs.Columns.{no_row, objects_at}
use Rattle.sql_bound.specs.declared.expr.BoundCol.{BoundCol}
use Rattle.value_rules.specs.Values.{Pick, row}
use Rattle.answer_rules.specs.declared.rewritten.ChunkItem.{ChunkItem}
use Rattle.answer_rules.specs.declared.rewritten.ChunkItem.TheVariants as item
use Rattle.answer_rules.specs.Gather.{Partial, gather, single}
use Rattle.answer_rules.specs.Small.{IsSmallPart, rows_in}
use Rattle.answer_rules.specs.Keys.{Key, key_by, key_of, key_order, keys_in, of_key, put_key}
use Rattle.answer_rules.specs.Parts.{Part, Sums, add_own_sums, way_of, add_sums, part_over, partials_of, sums_over}
use Rattle.answer_rules.specs.Pieces.{PieceView, OfGroups}
use Rattle.answer_rules.proofs.Gathering.{sum-gather}
use Rattle.answer_rules.proofs.Grouping.{parted-permutation, parted_joined, parts_add_up}
use Rattle.answer_rules.proofs.JoinedAlone.{AreOf, are_of, both_of, gathers}
use Rattle.answer_rules.proofs.PartsAdd.{sums_add, sums_add_up}
use Rattle.answer_rules.proofs.Totals.{key_total, same_keys}
use Rattle.partial_groups.specs.Groups.{Gathered, HaveWays, group_by, most_rows}
use Rattle.partial_merge.specs.Joining.{MayTakeGroup, with_group}

-- what all pass is kept whole
all_step : {X : Type 0} (x : X) (kept xs : List X) (b : Bool) → b ≡ true → kept ≡ xs → cond b (x ∷ kept) kept ≡ x ∷ xs
all_step x kept xs true is e = ap (λ l. x ∷ l) e
all_step x kept xs false is e = absurd (cc is)

filter_all : {X : Type 0} (p : X → Bool) (xs : List X) → All (λ x. p x ≡ true) xs → filter p xs ≡ xs
filter_all p [] all = refl
filter_all p (x ∷ xs) all =
    all_step x (filter p xs) xs (p x) (All-head (λ y. p y ≡ true) x xs all) (filter_all p xs (All-tail (λ y. p y ≡ true) x xs all))

-- a key ties with itself
tie_by : (c : Ordering) → c ≡ ordering_reverse c → c ≡ Equal
tie_by Less e = absurd cc
tie_by Equal e = refl
tie_by Greater e = absurd cc

tie : (k : Key) → key_order k k ≡ Equal
tie k = tie_by (key_order k k) (key_total.antisymm k k)

-- rows of one key have one key
keys_one : (keys : List BoundCol) (k : Key) (r : Pick) (rs : List Pick) → All (λ p. key_of keys p ≡ k) (r ∷ rs) → keys_in key_order (key_of keys) (r ∷ rs) ≡ k ∷ []
keys_one keys k r [] all = ap (λ x. x ∷ []) (All-head (λ p. key_of keys p ≡ k) r [] all)
keys_one keys k r (s ∷ rs) all =
    ap (put_key key_order (key_of keys r)) (keys_one keys k s rs (All-tail (λ p. key_of keys p ≡ k) r (s ∷ rs) all))
    ∙ (ap (λ x. put_key key_order x (k ∷ [])) (All-head (λ p. key_of keys p ≡ k) r (s ∷ rs) all)
    ∙ ap (λ c. key_by c k k [] (put_key key_order k [])) (tie k))

-- and are all of that key
rows_one : (keys : List BoundCol) (k : Key) (rows : List Pick) → All (λ p. key_of keys p ≡ k) rows → of_key key_order (key_of keys) k rows ≡ rows
rows_one keys k rows all =
    filter_all (λ r. is_eq (key_order k (key_of keys r))) rows (λ i d low. ap (λ x. is_eq (key_order k x)) (all i d low) ∙ ap is_eq (tie k))

-- so they are one group
one_key : (keys : List BoundCol) (items : List ChunkItem) (k : Key) (r : Pick) (rs : List Pick) → All (λ p. key_of keys p ≡ k) (r ∷ rs)
    → partials_of keys items (r ∷ rs) ≡ group_by k (length (r ∷ rs)) (map (part_over (r ∷ rs)) items) ∷ []
one_key keys items k r rs all =
    ap (map (λ (k : Key). let g : Partial Key Sums = record { key = k; part = sums_over items (of_key key_order (key_of keys) k (r ∷ rs)) } in g)) (keys_one keys k r rs all)
    ∙ ap (λ rows. (let g : Partial Key Sums = record { key = k; part = sums_over items rows } in g) ∷ []) (rows_one keys k (r ∷ rs) all)

-- a piece of the groups of some rows that takes in a group is one of the groups of both
pub group_put : (keys : List BoundCol) (items : List ChunkItem) (xs : List Pick) (k : Key) (r : Pick) (rs : List Pick) → All (λ p. key_of keys p ≡ k) (r ∷ rs)
    → with_group (OfGroups (partials_of keys items xs)) (group_by k (length (r ∷ rs)) (map (part_over (r ∷ rs)) items))
    ≡ OfGroups (partials_of keys items (xs ++ r ∷ rs))
group_put keys items xs k r rs all =
    let ys = r ∷ rs in
    ap (λ gs. OfGroups (gather key_order add_own_sums (partials_of keys items xs ++ gs))) (sym (one_key keys items k r rs all))
    ∙ ap OfGroups
    ((gathers items (partials_of keys items xs ++ partials_of keys items ys)
    (both_of items (partials_of keys items xs) (partials_of keys items ys) (are_of keys items xs) (are_of keys items ys))).same
    ∙ sym (parted_joined key_order (add_sums items) key_total same_keys (sums_add items) (key_of keys) (sums_over items) (sums_add_up items) xs ys))

-- the same of rows that stand between two places
pub run_put : (keys : List BoundCol) (items : List ChunkItem) (xs ys : List Pick) (k : Key) → 1 ≤ length ys → All (λ p. key_of keys p ≡ k) ys
    → with_group (OfGroups (partials_of keys items xs)) (group_by k (length ys) (map (part_over ys) items)) ≡ OfGroups (partials_of keys items (xs ++ ys))
run_put keys items xs [] k some all = absurd (omega (arith, some))
run_put keys items xs (r ∷ rs) k some all = group_put keys items xs k r rs all

-- ---- whether a piece can take in a group

-- the groups of some rows are for the aggregates
pub have_ways : (items : List ChunkItem) (gs : Gathered) → AreOf items gs → HaveWays (map way_of items) gs
have_ways items [] h = tt
have_ways items (g ∷ gs) h = (h.0, have_ways items gs h.1)

pub rows_of_singles : (keys : List BoundCol) (items : List ChunkItem) (rows : List Pick) → rows_in (map (single (key_of keys) (sums_over items)) rows) ≡ length rows
rows_of_singles keys items [] = refl
rows_of_singles keys items (p ∷ rows) =
    omega (arith, sum_by-cons (λ (g : Partial Key Sums). g.part.rows) (single (key_of keys) (sums_over items) p) (map (single (key_of keys) (sums_over items)) rows), rows_of_singles keys items rows)

-- and have as many rows
pub rows_of_parts : (keys : List BoundCol) (items : List ChunkItem) (rows : List Pick) → rows_in (partials_of keys items rows) ≡ length rows
rows_of_parts keys items rows =
    ap rows_in (parts_add_up key_order (add_sums items) key_total same_keys (sums_add items) (key_of keys) (sums_over items) (sums_add_up items) rows)
    ∙ sum-gather key_order (add_sums items) (λ s. s.rows) (λ a b. refl) (map (single (key_of keys) (sums_over items)) rows)
    ∙ rows_of_singles keys items rows

own_way : (ys : List Pick) (i : ChunkItem) → (part_over ys i).way ≡ way_of i
own_way ys (item.Plain e) = refl
own_way ys item.Count = refl
own_way ys (item.CountOf e) = refl
own_way ys (item.Sum e) = refl
own_way ys (item.Min e) = refl
own_way ys (item.Max e) = refl

-- some rows as a group of their own are for the aggregates
pub own_ways : (ys : List Pick) (items : List ChunkItem) → map (λ (p : Part). p.way) (map (part_over ys) items) ≡ map way_of items
own_ways ys [] = refl
own_ways ys (i ∷ items) = cc (own_way ys i, own_ways ys items)

-- so the piece of some rows can take in others, where all are few
pub may_take : (keys : List BoundCol) (items : List ChunkItem) (xs ys : List Pick) (k : Key) (n : ℕ) (view : PieceView) → view ≡ OfGroups (partials_of keys items xs)
    → length xs + n ≤ most_rows → AllByRecursion (IsSmallPart n) (map (part_over ys) items) → MayTakeGroup view (group_by k n (map (part_over ys) items))
may_take keys items xs ys k n view is few small =
    subst (λ v. MayTakeGroup v (group_by k n (map (part_over ys) items))) (sym is) (
      record {
        own = map way_of items;
        this = have_ways items (partials_of keys items xs) (are_of keys items xs);
        that = (own_ways ys items, tt);
        few = omega (arith, few, rows_of_parts keys items xs);
      },
      small,
    )

-- ---- rows in another order

-- rows in another order have the same groups
pub reordered : (keys : List BoundCol) (items : List ChunkItem) (objects : List Obj) (places order : List ℕ) (view : PieceView) → IsPermutation places order
    → view ≡ OfGroups (partials_of keys items (map row (objects_at objects order))) → view ≡ OfGroups (partials_of keys items (map row (objects_at objects places)))
reordered keys items objects places order view moved is =
    let there = λ (place : ℕ). get_or objects place no_row in
    is
    ∙ ap OfGroups
    (parted-permutation key_order (add_sums items) key_total same_keys (sums_add items) (key_of keys) (sums_over items) (sums_add_up items)
    (map row (map there places)) (map row (map there order)) (IsPermutation-map row (map there places) (map there order) (IsPermutation-map there places order moved)))
