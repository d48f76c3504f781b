-- The first n lines of counted groups are those of the groups before a cutoff, if n groups are before it.
use Rattle.std.proofs.Common.{◌≡◌, ℕ, zero, suc, ◌+◌, ◌<◌, ◌≤◌, ◌||◌, ◌&&◌, ◌==◌, ℤ, pos, neg_ℤ, ◌+ℤ◌, Bool, true, false, not, cond, List, [], ◌∷◌, ◌++◌, length, map, get_or, replicate, count_by, Option, Some, None, refl, sym, ap, subst, ◌∙◌, arith, Ordering, Less, Equal, Greater, is_lt, nat_cmp, int_cmp}
use Rattle.std.specs.Prelude.{nat_lt}
use Rattle.std.specs.Cmp.{IsTotalOrder}
use Rattle.std.specs.List.{All, AllByRecursion as Each, filter}
use Rattle.std.specs.Ordering.{ordering_then}
use Rattle.std.proofs.lemmas.Int.{ints}
use Rattle.std.proofs.lemmas.List.{length-append, length-replicate}
use Rattle.std.proofs.lemmas.List.Elements.{All-filter, All-from_recursion}
use Rattle.std.proofs.lemmas.List.Sorted.{IsPermutation-filter_both}
use Rattle.sql_bound.specs.declared.expr.BoundCol.{BoundCol}
use Rattle.answer_rules.specs.declared.rewritten.MergePlan.{MergePlan}
use Rattle.answer_rules.specs.declared.value.Value.{Value}
use Rattle.answer_rules.specs.Answers.{unless_out}
use Rattle.answer_rules.specs.Finish.{groups_merged, merge_down, merged_groups, merged_line, merged_order, merged_out}
use Rattle.answer_rules.specs.Gather.{Partial, Rise, gather}
use Rattle.answer_rules.specs.Groups.{GroupLine, group_order}
use Rattle.answer_rules.specs.InOrder.{first, in_order}
use Rattle.answer_rules.specs.Keeps.{AreApart, IsLate, KeepsFirst, is_up_to}
use Rattle.answer_rules.specs.Keys.{Key, key_order}
use Rattle.answer_rules.specs.Parts.{Sums, add_own_sums}
use Rattle.answer_rules.specs.Ranks.{rank_class, rank_value}
use Rattle.answer_rules.specs.Rows.{limit_of}
use Rattle.answer_rules.proofs.Gathering.{rise_gather}
use Rattle.answer_rules.proofs.Keeping.{first_kept}
use Rattle.answer_rules.proofs.Orders.{below_up_to, count_all, each_weaker, not_below_on}
use Rattle.answer_rules.proofs.Totals.{group_total, key_total}
use Rattle.partial_groups.specs.declared.cutoff.Cutoff.{Cutoff}
use Rattle.partial_groups.specs.Counts.{numbers_counted}
use Rattle.partial_groups.specs.Groups.{Gathered, HaveWays, MayGather, ways_in}
use Rattle.partial_groups.specs.Merging.{MayMerge}
use Rattle.partial_groups.specs.Pruning.{IsByRowCount, group_count, is_before_cutoff, count_before, counts_before}
use Rattle.partial_groups.specs.Ungrouped.{counted_group, row_groups}
use Rattle.partial_groups.proofs.CountedGroups.{group_if, groups_from, many_groups, none_out, numbers_from, places, numbers_all, number_groups, then_equal, unsigned}
use Rattle.partial_groups.proofs.Rise.{lines_apart}
use Rattle.partial_groups.proofs.RowCounts.{next_may, next_put, rows_long}

abbrev gather_own : Gathered → Gathered
gather_own gs = gather key_order add_own_sums gs

-- ---- the first n of a list are among those before x, if n of the list are before x

abbrev before : {X : Type 0} → (X → X → Ordering) → X → X → Bool
before cmp x y = is_lt (cmp y x)

passing_step : {X : Type 0} (p : X → Bool) (x : X) (ys : List X) → Each (λ y. p y ≡ true) ys → (b : Bool) → p x ≡ b → Each (λ y. p y ≡ true) (cond b (x ∷ ys) ys)
passing_step p x ys h true e = (e, h)
passing_step p x ys h false e = h

passing : {X : Type 0} (p : X → Bool) (xs : List X) → Each (λ x. p x ≡ true) (filter p xs)
passing p [] = tt
passing p (x ∷ xs) = passing_step p x (filter p xs) (passing p xs) (p x) refl

is_not : (b : Bool) → not b ≡ true → b ≡ false
is_not true h = absurd (cc h)
is_not false h = refl

not_not : (b : Bool) → b ≡ not (not b)
not_not true = refl
not_not false = refl

-- all that are before x are before what is not
late_left : {X : Type 0} (cmp : X → X → Ordering) → IsTotalOrder cmp → (n : ℕ) (x z : X) (front : List X) → n ≤ length front → Each (λ f. before cmp x f ≡ true) front → before cmp x z ≡ false → n ≤ count_by (is_up_to cmp z) front
late_left cmp o n x z front l h k =
    omega (arith, l, count_all (is_up_to cmp z) front (each_weaker (λ f. before cmp x f ≡ true) (λ f. is_up_to cmp z f ≡ true) (λ f b. ap not (not_below_on o f x z (below_up_to o f x b) k)) front h))

first_before : {X : Type 0} (cmp : X → X → Ordering) → IsTotalOrder cmp → (n : ℕ) (x : X) (xs : List X) → AreApart cmp xs → n ≤ length (filter (before cmp x) xs) → first (Some n) (in_order cmp (filter (before cmp x) xs)) ≡ first (Some n) (in_order cmp xs)
first_before {X} cmp o n x xs apart l =
    let front : List X = filter (before cmp x) xs in
    let left : List X = filter (λ y. not (before cmp x y)) xs in
    let kept : KeepsFirst cmp (Some n) xs front = record {
      left_out = left;
      all = IsPermutation-filter_both (λ y. not (before cmp x y)) (before cmp x) (λ y. not_not (before cmp x y)) xs;
      late =
          All-from_recursion (IsLate cmp (Some n) front) left
          (each_weaker (λ y. not (before cmp x y) ≡ true) (IsLate cmp (Some n) front)
          (λ z h. late_left cmp o n x z front l (passing (before cmp x) xs) (is_not (before cmp x z) h)) left (passing (λ y. not (before cmp x y)) xs));
    } in
    first_kept cmp o (Some n) xs front apart kept

map_step : {X Y : Type 0} (f : X → Y) (x : X) (xs : List X) (ys : List Y) → map f xs ≡ ys → (b : Bool) → map f (cond b (x ∷ xs) xs) ≡ cond b (f x ∷ ys) ys
map_step f x xs ys h true = ap (λ l. f x ∷ l) h
map_step f x xs ys h false = h

map_filter : {X Y : Type 0} (f : X → Y) (p : Y → Bool) (xs : List X) → map f (filter (λ x. p (f x)) xs) ≡ filter p (map f xs)
map_filter f p [] = refl
map_filter f p (x ∷ xs) = map_step f x (filter (λ x. p (f x)) xs) (filter p (map f xs)) (map_filter f p xs) (p (f x))

-- ---- the groups before a cutoff

-- the line at the cutoff
abbrev pivot : ℤ → Cutoff → GroupLine
pivot least c = record { class = 0; value = neg_ℤ (pos c.count); key = Some (least +ℤ pos c.position) ∷ []; values = [] }

abbrev is_before : List BoundCol → MergePlan → ℤ → Cutoff → Partial Key Sums → Bool
is_before keys merge least c g = before group_order (pivot least c) (merged_line keys merge g)

tests : (a b d e : Bool) → is_lt (ordering_then (cond a Less (cond b Equal Greater)) (cond d Less (cond e Equal Greater))) ≡ (a || (b && d))
tests true b d e = refl
tests false true true e = refl
tests false true false true = refl
tests false true false false = refl
tests false false d e = refl

negated : (a b : ℤ) → int_cmp (neg_ℤ a) (neg_ℤ b) ≡ int_cmp b a
negated a b = grind (arith, ints)

turned : (m n : ℕ) → int_cmp (neg_ℤ (pos n)) (neg_ℤ (pos m)) ≡ nat_cmp m n
turned m n = negated (pos n) (pos m) ∙ unsigned m n

line_before : (down : Bool) (key : Option ℤ) (least : ℤ) (c : Cutoff) (n i : ℕ) → down ≡ true → key ≡ Some (pos n)
    → is_lt (ordering_then (nat_cmp (rank_class down key) 0) (ordering_then (int_cmp (rank_value down key) (neg_ℤ (pos c.count))) (key_order (Some (least +ℤ pos i) ∷ []) (Some (least +ℤ pos c.position) ∷ []))))
    ≡ is_before_cutoff c n i
line_before down key least c n i d k =
    let last : Ordering = key_order (Some (least +ℤ pos i) ∷ []) (Some (least +ℤ pos c.position) ∷ []) in
    ap (λ b. is_lt (ordering_then (nat_cmp (rank_class b key) 0) (ordering_then (int_cmp (rank_value b key) (neg_ℤ (pos c.count))) last))) d
    ∙ ap (λ o. is_lt (ordering_then (nat_cmp (rank_class true o) 0) (ordering_then (int_cmp (rank_value true o) (neg_ℤ (pos c.count))) last))) k
    ∙ ap (λ o. is_lt (ordering_then o last)) (turned c.count n)
    ∙ ap (λ o. is_lt (ordering_then (nat_cmp c.count n) o)) (then_equal (int_cmp (least +ℤ pos i) (least +ℤ pos c.position)) ∙ places least i c.position)
    ∙ tests (nat_lt c.count n) (c.count == n) (nat_lt i c.position) (i == c.position)

group_before : (counted : List Bool) (keys : List BoundCol) (merge : MergePlan) → IsByRowCount counted merge → (least : ℤ) (c : Cutoff) (n i : ℕ) → is_before keys merge least c (counted_group counted n (least +ℤ pos i)) ≡ is_before_cutoff c n i
group_before counted keys merge by least c n i =
    line_before (merge_down merge.order) (merged_order keys merge.items (counted_group counted n (least +ℤ pos i)) merge.order) least c n i by.down (by.count keys n (least +ℤ pos i))

kept_step : (counted : List Bool) (value : ℤ) (n : ℕ) (p : Partial Key Sums → Bool) (rest left : Gathered) → rest ≡ filter p left → (b : Bool) → p (counted_group counted n value) ≡ b → group_if counted (cond b n 0) value ++ rest ≡ filter p (group_if counted n value ++ left)
kept_step counted value zero p rest left h true e = h
kept_step counted value zero p rest left h false e = h
kept_step counted value (suc n) p rest left h true e =
    let g : Partial Key Sums = counted_group counted (suc n) value in
    ap (λ l. g ∷ l) h ∙ ap (λ (b : Bool). cond b (g ∷ filter p left) (filter p left)) (sym e)
kept_step counted value (suc n) p rest left h false e =
    let g : Partial Key Sums = counted_group counted (suc n) value in
    h ∙ ap (λ (b : Bool). cond b (g ∷ filter p left) (filter p left)) (sym e)

kept_are : (counted : List Bool) (keys : List BoundCol) (merge : MergePlan) → IsByRowCount counted merge → (least : ℤ) (c : Cutoff) (i : ℕ) (ns : List ℕ) → groups_from counted least i (counts_before c i ns) ≡ filter (is_before keys merge least c) (groups_from counted least i ns)
kept_are counted keys merge by least c i [] = refl
kept_are counted keys merge by least c i (n ∷ ns) =
    kept_step counted (least +ℤ pos i) n (is_before keys merge least c) (groups_from counted least (suc i) (counts_before c (suc i) ns)) (groups_from counted least (suc i) ns)
    (kept_are counted keys merge by least c (suc i) ns) (is_before_cutoff c n i) (group_before counted keys merge by least c n i)

-- ---- the answer of the groups before a cutoff

pub long_kept : (c : Cutoff) (i : ℕ) (ns : List ℕ) → length (counts_before c i ns) ≡ length ns
long_kept c i [] = refl
long_kept c i (n ∷ ns) = ap suc (long_kept c (suc i) ns)

length_map : {X Y : Type 0} (f : X → Y) (xs : List X) → length (map f xs) ≡ length xs
length_map f [] = refl
length_map f (x ∷ xs) = ap suc (length_map f xs)

same_lines : (keys : List BoundCol) (merge : MergePlan) (limit : Option ℕ) (n : ℕ) (x : GroupLine) (gs : Gathered) → Rise key_order gs → limit ≡ Some n → n ≤ length (filter (λ (g : Partial Key Sums). before group_order x (merged_line keys merge g)) gs)
    → first limit (in_order group_order (map (merged_line keys merge) (filter (λ (g : Partial Key Sums). before group_order x (merged_line keys merge g)) gs))) ≡ first limit (in_order group_order (map (merged_line keys merge) gs))
same_lines keys merge limit n x gs rise e l =
    let kept : Gathered = filter (λ (g : Partial Key Sums). before group_order x (merged_line keys merge g)) gs in
    let are : map (merged_line keys merge) kept ≡ filter (before group_order x) (map (merged_line keys merge) gs) = map_filter (merged_line keys merge) (before group_order x) gs in
    let many : n ≤ length (filter (before group_order x) (map (merged_line keys merge) gs)) = omega (arith, l, length_map (merged_line keys merge) kept, ap length are) in
    ap (λ m. first m (in_order group_order (map (merged_line keys merge) kept))) e
    ∙ ap (λ ls. first (Some n) (in_order group_order ls)) are
    ∙ first_before group_order group_total n x (map (merged_line keys merge) gs) (lines_apart keys merge gs rise) many
    ∙ ap (λ m. first m (in_order group_order (map (merged_line keys merge) gs))) (sym e)

same_answer : (keys : List BoundCol) (merge : MergePlan) (gs hs : Gathered) → merged_out merge.items gs ≡ None → merged_out merge.items hs ≡ None
    → first (limit_of merge.limit) (in_order group_order (map (merged_line keys merge) gs)) ≡ first (limit_of merge.limit) (in_order group_order (map (merged_line keys merge) hs)) → merged_groups keys merge gs ≡ merged_groups keys merge hs
same_answer keys merge gs hs a b e =
    let shown : List GroupLine → List (List Value) = λ ls. map (λ (r : GroupLine). r.values) ls in
    ap (λ o. unless_out o (shown (first (limit_of merge.limit) (in_order group_order (map (merged_line keys merge) gs))))) (a ∙ sym b)
    ∙ ap (λ ls. unless_out (merged_out merge.items hs) (shown ls)) e

-- with keys, no group is added
with_keys : (keys : List BoundCol) (gs : Gathered) → 0 < length keys → groups_merged keys gs ≡ gs
with_keys [] gs l = absurd (omega (arith, l))
with_keys (c ∷ keys) gs l = refl

-- each item can be merged for each of these groups
abbrev MayMergeAll : List BoundCol → MergePlan → Gathered → Type 0
MayMergeAll keys merge gs = All (λ g. All (MayMerge keys g) merge.items) gs

-- What the groups before a cutoff have in common with all groups.
pub record Pruned (keys : List BoundCol) (merge : MergePlan) (all kept : Gathered) : Type 0 where
  pub may : MayMergeAll keys merge (groups_merged keys all) → MayMergeAll keys merge (groups_merged keys kept)
  pub same : merged_groups keys merge (groups_merged keys kept) ≡ merged_groups keys merge (groups_merged keys all)

pruned : (counted : List Bool) (keys : List BoundCol) (merge : MergePlan) (n : ℕ) (least : ℤ) (c : Cutoff) (counts : List ℕ) → 0 < length keys → IsByRowCount counted merge → limit_of merge.limit ≡ Some n → n ≤ group_count (counts_before c 0 counts)
    → Pruned keys merge (gather_own (row_groups counted (numbers_counted least counts (length counts)))) (gather_own (row_groups counted (numbers_counted least (counts_before c 0 counts) (length counts))))
pruned counted keys merge n least c counts keyed by limit enough =
    let all : Gathered = gather_own (row_groups counted (numbers_counted least counts (length counts))) in
    let kept : Gathered = gather_own (row_groups counted (numbers_counted least (counts_before c 0 counts) (length counts))) in
    let full : Gathered = groups_from counted least 0 counts in
    let all_is : all ≡ full = number_groups counted least counts (length counts) refl in
    let kept_is : kept ≡ groups_from counted least 0 (counts_before c 0 counts) = number_groups counted least (counts_before c 0 counts) (length counts) (sym (long_kept c 0 counts)) in
    let filtered : groups_from counted least 0 (counts_before c 0 counts) ≡ filter (is_before keys merge least c) full = kept_are counted keys merge by least c 0 counts in
    let rise : Rise key_order full = subst (Rise key_order) all_is (rise_gather key_order add_own_sums key_total (row_groups counted (numbers_counted least counts (length counts)))) in
    let many : n ≤ length (filter (is_before keys merge least c) full) = omega (arith, enough, many_groups counted least 0 (counts_before c 0 counts), ap length filtered) in
    let none : merged_out merge.items (filter (is_before keys merge least c) full) ≡ None = ap (merged_out merge.items) (sym filtered) ∙ none_out counted least merge.items 0 (counts_before c 0 counts) in
    let lines = same_lines keys merge (limit_of merge.limit) n (pivot least c) full rise limit many in
    record {
      may = λ h.
          subst (MayMergeAll keys merge) (sym (with_keys keys kept keyed ∙ kept_is ∙ filtered))
          (All-filter (is_before keys merge least c) (λ g. All (MayMerge keys g) merge.items) full (subst (MayMergeAll keys merge) (with_keys keys all keyed ∙ all_is) h));
      same =
          ap (merged_groups keys merge) (with_keys keys kept keyed ∙ kept_is ∙ filtered)
          ∙ same_answer keys merge (filter (is_before keys merge least c) full) full none (none_out counted least merge.items 0 counts) lines
          ∙ ap (merged_groups keys merge) (sym (with_keys keys all keyed ∙ all_is));
    }

-- so has a table of these groups
pub table_pruned : (counted : List Bool) (keys : List BoundCol) (merge : MergePlan) (n : ℕ) (least number : ℤ) (c : Cutoff) (counts : List ℕ) (table : Gathered) → 0 < length keys → IsByRowCount counted merge → limit_of merge.limit ≡ Some n → n ≤ group_count (counts_before c 0 counts)
    → number ≡ least → table ≡ gather_own (row_groups counted (numbers_counted number (counts_before c 0 counts) (length counts)))
    → Pruned keys merge (gather_own (row_groups counted (numbers_counted least counts (length counts)))) table
table_pruned counted keys merge n least number c counts table keyed by limit enough e is =
    subst (Pruned keys merge (gather_own (row_groups counted (numbers_counted least counts (length counts)))))
    (sym (is ∙ ap (λ (l : ℤ). gather_own (row_groups counted (numbers_counted l (counts_before c 0 counts) (length counts)))) e))
    (pruned counted keys merge n least c counts keyed by limit enough)

-- ---- the rows of the groups before a cutoff may be added up

kept_most : (b : Bool) (n : ℕ) → cond b n 0 ≤ n
kept_most true n = omega arith
kept_most false n = omega arith

fewer_numbers : (least : ℤ) (c : Cutoff) (i : ℕ) (ns : List ℕ) → length (numbers_from least i (counts_before c i ns)) ≤ length (numbers_from least i ns)
fewer_numbers least c i [] = omega arith
fewer_numbers least c i (n ∷ ns) =
    let value : ℤ = least +ℤ pos i in
    let left : List ℤ = numbers_from least (suc i) (counts_before c (suc i) ns) in
    let all : List ℤ = numbers_from least (suc i) ns in
    let few : length (replicate (count_before c n i) value ++ left) ≡ count_before c n i + length left =
    length-append (replicate (count_before c n i) value) left ∙ ap (λ k. k + length left) (length-replicate (count_before c n i) value)
    in
    let many : length (replicate n value ++ all) ≡ n + length all = length-append (replicate n value) all ∙ ap (λ k. k + length all) (length-replicate n value) in
    let less : count_before c n i ≤ n = kept_most (is_before_cutoff c n i) n in
    let rest : length left ≤ length all = fewer_numbers least c (suc i) ns in
    let both : length (replicate (count_before c n i) value ++ left) ≤ length (replicate n value ++ all) = omega (arith, few, many, less, rest) in
    both

rows_have : (counted : List Bool) (values : List ℤ) → HaveWays (ways_in (counted_group counted 1 (pos 0))) (row_groups counted values)
rows_have counted [] = tt
rows_have counted (v ∷ values) = (refl, rows_have counted values)

pub kept_may : (counted : List Bool) (least : ℤ) (c : Cutoff) (counts : List ℕ) → MayGather [] (row_groups counted (numbers_counted least counts (length counts))) → MayGather [] (row_groups counted (numbers_counted least (counts_before c 0 counts) (length counts)))
kept_may counted least c counts m =
    let left : List ℤ = numbers_counted least (counts_before c 0 counts) (length counts) in
    let all : List ℤ = numbers_counted least counts (length counts) in
    record {
      own = ways_in (counted_group counted 1 (pos 0));
      this = tt;
      that = rows_have counted left;
      few = omega (
        arith,
        m.few,
        rows_long counted left,
        rows_long counted all,
        fewer_numbers least c 0 counts,
        ap length (numbers_all least (counts_before c 0 counts) (length counts) (sym (long_kept c 0 counts))),
        ap length (numbers_all least counts (length counts) refl),
      );
    }

-- ---- the counts of a cutoff, one by one

kept_at : (c : Cutoff) (j i : ℕ) (ns : List ℕ) → i < length ns → get_or (counts_before c j ns) i 0 ≡ count_before c (get_or ns i 0) (j + i)
kept_at c j i [] l = absurd (omega (arith, l))
kept_at c j zero (n ∷ ns) l = (let same : j ≡ j + 0 = omega arith in ap (count_before c n) same)
kept_at c j (suc i) (n ∷ ns) l =
    let next : suc j + i ≡ j + suc i = omega arith in
    kept_at c (suc j) i ns (omega (arith, l)) ∙ ap (count_before c (get_or ns i 0)) next

kept_here : (c : Cutoff) (i count : ℕ) (ns : List ℕ) → i < length ns → count ≡ count_before c (get_or ns i 0) i → get_or (counts_before c 0 ns) i 0 ≡ count
kept_here c i count ns l e = (let same : 0 + i ≡ i = omega arith in kept_at c 0 i ns l ∙ ap (count_before c (get_or ns i 0)) same ∙ sym e)

-- the rows of the next number may be put
pub kept_next_may : (now : Gathered) (counted : List Bool) (least value : ℤ) (c : Cutoff) (counts : List ℕ) (n count : ℕ) → value ≡ least +ℤ pos n → n < length counts → count ≡ count_before c (get_or counts n 0) n
    → MayGather [] (row_groups counted (numbers_counted least (counts_before c 0 counts) (length counts))) → now ≡ gather_own (row_groups counted (numbers_counted least (counts_before c 0 counts) n)) → MayGather now (row_groups counted (replicate count value))
kept_next_may now counted least value c counts n count is l e m h =
    subst (λ k. MayGather now (row_groups counted (replicate k value))) (kept_here c n count counts l e)
    (next_may [] now counted least value (counts_before c 0 counts) n (length counts) is l m h)

pub kept_next_put : (now new : Gathered) (counted : List Bool) (least value : ℤ) (c : Cutoff) (counts : List ℕ) (n count : ℕ) → value ≡ least +ℤ pos n → n < length counts → count ≡ count_before c (get_or counts n 0) n
    → MayGather [] (row_groups counted (numbers_counted least (counts_before c 0 counts) (length counts))) → now ≡ gather_own (row_groups counted (numbers_counted least (counts_before c 0 counts) n)) → new ≡ gather_own (now ++ row_groups counted (replicate count value))
    → new ≡ gather_own (row_groups counted (numbers_counted least (counts_before c 0 counts) (n + 1)))
kept_next_put now new counted least value c counts n count is l e m h f =
    next_put [] now new counted least value (counts_before c 0 counts) n (length counts) is l m h
    (f ∙ ap (λ k. gather_own (now ++ row_groups counted (replicate k value))) (sym (kept_here c n count counts l e)))
