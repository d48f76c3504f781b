-- The sweep of a strip: each row with itself, and with those behind it that are near enough, in both orders.
use Rattle.std.proofs.Common.{◌≡◌, ℕ, zero, suc, ◌+◌, ◌-◌, ◌<◌, ◌≤◌, ℤ, pos, ◌+ℤ◌, ◌-ℤ◌, ◌≤ℤ◌, Bool, true, false, cond, ◌&&◌, List, [], ◌∷◌, ◌++◌, length, get_or, take, drop, slice_range, filter, int_le, int_lt, neg_ℤ, refl, sym, ap, subst, ◌∙◌, arith, IsPermutation, All}
use Rattle.std.specs.List.{AllWithin, flat_map}
use Rattle.std.proofs.lemmas.Bool.{and_parts, both_ways as two_answers}
use Rattle.std.proofs.lemmas.Int.{ints}
use Rattle.std.proofs.lemmas.List.{append-nil, drop_more, map-append, get_or-map, get_or-drop, length-drop, length-map, take_all, take_more}
use Rattle.std.proofs.lemmas.List.Concat.{flat_map-append}
use Rattle.std.proofs.lemmas.List.Elements.{filter-append}
use Rattle.sky_vector.specs.Points.{Point, chord_squared, square}
use Rattle.sky_vector.proofs.Signed.{square_up}
use Rattle.sky_vector.proofs.Plane.{same_chord}
use Rattle.wedge_rules.proofs.Tests.{le_from, le_to}
use Rattle.sql_bound.specs.declared.cond.BoundCond.{BoundCond}
use Rattle.sky_rules.specs.Bounds.{Bounds, in_bounds}
use Rattle.table_rules.specs.Objects.{Obj}
use Rattle.sky_row.specs.Columns.{objects_at}
use Rattle.value_rules.specs.Truth.{meets}
use Rattle.value_rules.specs.Values.{Pick, pair}
use Rattle.answer_rules.specs.Pieces.{PieceView}
use Rattle.answer_rules.specs.declared.rewritten.ChunkQuery.{ChunkQuery}
use Rattle.partial_merge.specs.Joining.{IsOfRows}
use Rattle.near_join.specs.Bare.{IsBare}
use Rattle.near_join.specs.Gains.{Gains, both_orders, held_pair, held_rows, if_met, ordered_pair, swept_pairs, upward_pairs}
use Rattle.near_join.specs.Rising.{Rises, is_upward}
use Rattle.near_join.specs.Strips.{heights_at, is_close, object_at}
use Rattle.near_join.specs.Walk.{is_near, joins}
use Rattle.near_join.specs.Windows.{Ascend, IsRoot}
use Rattle.near_join.proofs.Filters.{filter_take}
use Rattle.near_join.proofs.Gaining.{gains_joined, gains_moved, gains_nothing}
use Rattle.near_join.proofs.Squares.{held_in_front}
use Rattle.near_join.proofs.Sweeping.{no_chord, slice_more, slice_none}
use Rattle.near_join.proofs.Windows.{above_all}

-- ---- points that are near enough

-- points so near in space are so near in x, and in height
x_near : (u v : Point) (n : ℤ) → chord_squared u v ≤ℤ n → square (u.x -ℤ v.x) ≤ℤ n
x_near u v n h =
    let y = square_up (u.y -ℤ v.y) in
    let z = square_up (u.z -ℤ v.z) in omega (arith, ints, h, y, z)

height_near : (u v : Point) (n : ℤ) → chord_squared u v ≤ℤ n → square (v.z -ℤ u.z) ≤ℤ n
height_near u v n h =
    let back = same_chord u v in
    let x = square_up (v.x -ℤ u.x) in
    let y = square_up (v.y -ℤ u.y) in omega (arith, ints, h, back, x, y)

-- points that are too far apart in x are no pair
pub far_in_x : (u v : Point) (n : ℤ) → int_le (square (u.x -ℤ v.x)) n ≡ false → int_le (chord_squared u v) n ≡ false
far_in_x u v n h = by (int_le (chord_squared u v) n) refl
  where
    by : (b : Bool) → int_le (chord_squared u v) n ≡ b → b ≡ false
    by false e = refl
    by true e = absurd (two_answers (int_le (square (u.x -ℤ v.x)) n) h (le_to (square (u.x -ℤ v.x)) n (x_near u v n (le_from (chord_squared u v) n e))))

far_in_height : (u v : Point) (n : ℤ) → int_le (square (v.z -ℤ u.z)) n ≡ false → int_le (chord_squared u v) n ≡ false
far_in_height u v n h = by (int_le (chord_squared u v) n) refl
  where
    by : (b : Bool) → int_le (chord_squared u v) n ≡ b → b ≡ false
    by false e = refl
    by true e = absurd (two_answers (int_le (square (v.z -ℤ u.z)) n) h (le_to (square (v.z -ℤ u.z)) n (height_near u v n (le_from (chord_squared u v) n e))))

negated : (root : ℤ) → neg_ℤ root ≡ pos 0 -ℤ root
negated root = omega (arith, ints)

-- a difference of at least the opposite of the root is within the limit where it is at most the root, and another is not
pub within_root : (gap limit root : ℤ) → IsRoot limit root → int_le (pos 0 -ℤ root) gap ≡ true → int_le gap root ≡ int_le (square gap) limit
within_root gap limit root is low = sym (is gap ∙ ap (λ b. b && int_le gap root) (ap (λ a. int_le a gap) (negated root) ∙ low))

pub below_root : (gap limit root : ℤ) → IsRoot limit root → int_le (pos 0 -ℤ root) gap ≡ false → int_le (pos 0 -ℤ root) gap ≡ int_le (square gap) limit
below_root gap limit root is low = low ∙ sym (is gap ∙ ap (λ b. b && int_le gap root) (ap (λ a. int_le a gap) (negated root) ∙ low))

-- ---- the rows that are picked

-- before the first
pub none_picked : (test : ℕ → Bool) (places : List ℕ) (from : ℕ) → [] ≡ filter test (slice_range places from from)
none_picked test places from = sym (ap (filter test) (slice_none places from))

-- one place more was looked at
pub one_picked : (test : ℕ → Bool) (other : ℕ) (places old new : List ℕ) (from k : ℕ) (is : Bool) → from ≤ k → k < length places → other ≡ get_or places k 0 → is ≡ test other
    → new ≡ old ++ cond is (other ∷ []) [] → old ≡ filter test (slice_range places from k) → new ≡ filter test (slice_range places from (k + 1))
one_picked test other places old new from k is l low here e step so_far =
    step ∙ ap (λ l. l ++ cond is (other ∷ []) []) so_far ∙ ap (λ b. filter test (slice_range places from k) ++ cond b (other ∷ []) []) e
    ∙ ap (λ p. filter test (slice_range places from k) ++ cond (test p) (p ∷ []) []) here
    ∙ sym (ap (filter test) (slice_more places from k 0 l low) ∙ filter-append test (slice_range places from k) (get_or places k 0 ∷ []))

-- a part up to the end
pub to_the_end : (places : List ℕ) (from k : ℕ) → from ≤ k → length places ≤ k → slice_range places from k ≡ drop from places
to_the_end places from k l h = let long = length-drop from places in take_all (k - from) (drop from places) (omega (arith, long, l, h))

high_fails : (a b root : ℤ) (limit : ℤ) → IsRoot limit root → int_le a (b +ℤ root) ≡ false → int_le (square (a -ℤ b)) limit ≡ false
high_fails a b root limit is h = is (a -ℤ b) ∙ right (int_le (neg_ℤ root) (a -ℤ b)) (int_le (a -ℤ b) root) (over a b root h)
  where
    right : (p q : Bool) → q ≡ false → (p && q) ≡ false
    right true q e = e
    right false q e = refl

    over : (a b root : ℤ) → int_le a (b +ℤ root) ≡ false → int_le (a -ℤ b) root ≡ false
    over a b root h = grind (arith, ints)

-- behind a height that is too far above that of a row nothing is near enough to the row
pub rest_far : (objects : List Obj) (limit root high : ℤ) (places : List ℕ) (zs : List ℤ) (place from k : ℕ) → zs ≡ heights_at objects places → Ascend zs → IsRoot limit root
    → high ≡ (object_at objects place).at.z +ℤ root → from ≤ k → k < length zs → int_lt high (get_or zs k (pos 0)) ≡ true
    → filter (is_close objects limit place) (slice_range places from k) ≡ filter (is_close objects limit place) (drop from places)
rest_far objects limit root high places zs place from k e up is at l h over =
    let long : length zs ≡ length places = ap length e ∙ length-map places (λ p. (object_at objects p).at.z) in
    let behind : AllWithin (λ b. int_le b high ≡ false) zs k (length zs) = above_all zs high k up h over in
    let u : Obj = object_at objects place in
    let height : (j d : ℕ) → j < length places → get_or zs j (pos 0) ≡ (object_at objects (get_or places j d)).at.z =
    λ j d m. ap (λ l. get_or l j (pos 0)) e ∙ get_or-map (λ p. (object_at objects p).at.z) places j d (pos 0) m in
    filter_take (is_close objects limit place) (drop from places) (k - from)
    (λ j d a b. let dropped = length-drop from places in
    let low : from + j < length places = omega (arith, b, dropped) in
    subst (λ p. is_close objects limit place p ≡ false) (sym (get_or-drop from places j d))
    (far_in_height u.at (object_at objects (get_or places (from + j) d)).at limit
    (high_fails (object_at objects (get_or places (from + j) d)).at.z u.at.z root limit is
    (subst (λ t. int_le t (u.at.z +ℤ root) ≡ false) (height (from + j) d low)
    (subst (λ t. int_le (get_or zs (from + j) (pos 0)) t ≡ false) at
    (behind (from + j) (pos 0) (omega (arith, a, l)) (omega (arith, low, long))))))))

-- what holds of a list holds of what stands behind a part of it
pub behind_there : (P : ℕ → Type 0) (places : List ℕ) (from : ℕ) → All P places → All P (drop from places)
behind_there P places from all = λ k d l. subst P (sym (get_or-drop from places k d)) (all (from + k) d (let long = length-drop from places in omega (arith, l, long)))

-- ---- the pairs of two rows

same_near : (limit : ℤ) (u v : Obj) → is_near limit v u ≡ is_near limit u v
same_near limit u v = ap (λ c. int_le c limit) (same_chord v.at u.at)

-- two rows that are near enough are so from either side
pub near_back : (limit : ℤ) (u v : Obj) → is_near limit u v ≡ true → is_near limit v u ≡ true
near_back limit u v h = same_near limit u v ∙ h

shut_by : (held met : Bool) (p : Pick) → cond (held && (false && met)) (p ∷ []) [] ≡ []
shut_by true met p = refl
shut_by false met p = refl

-- rows that are too far apart are no pair
far_pair : (cq : ChunkQuery) (limit : ℤ) (held : Bool) (u v : Obj) → is_near limit u v ≡ false → ordered_pair cq limit held u v ≡ []
far_pair cq limit held u v h =
    ap (λ b. cond (held && (b && meets cq.conds (pair u v))) (pair u v ∷ []) []) h ∙ shut_by held (meets cq.conds (pair u v)) (pair u v)

-- nor are they in the other order
far_ways : (cq : ChunkQuery) (limit : ℤ) (bounds : Bounds) (u v : Obj) → is_near limit u v ≡ false → both_orders cq limit bounds u v ≡ []
far_ways cq limit bounds u v h =
    ap (λ l. l ++ held_pair cq limit bounds v u) (far_pair cq limit (in_bounds bounds u.at) u v h) ∙ far_pair cq limit (in_bounds bounds v.at) v u (same_near limit u v ∙ h)

-- rows that are near enough are a pair where they meet the conditions, of those whose first row is held
pub way_open : (cq : ChunkQuery) (limit : ℤ) (held rises : Bool) (u v : Obj) → is_near limit u v ≡ true → (held && is_upward rises u v) ≡ true
    → if_met cq.conds u v ≡ ordered_pair cq limit held u v
way_open cq limit held rises u v near may =
    sym (ap (λ b. cond (held && (b && meets cq.conds (pair u v))) (pair u v ∷ []) []) near
    ∙ ap (λ b. cond (b && meets cq.conds (pair u v)) (pair u v ∷ []) []) (and_parts held (is_upward rises u v) may).0)

not_met : (conds : List BoundCond) (u v : Obj) → Rises conds → int_lt u.id v.id ≡ false → meets conds (pair u v) ≡ false
not_met conds u v rising h = by (meets conds (pair u v)) refl
  where
    not_under : (a b : ℤ) → int_lt a b ≡ false → b ≤ℤ a
    not_under a b h = grind (arith, ints)

    by : (b : Bool) → meets conds (pair u v) ≡ b → b ≡ false
    by false e = refl
    by true e =
        let under = rising u v e in
        let over = not_under u.id v.id h in absurd (omega (arith, ints, under, over))

unmet_pair : (cq : ChunkQuery) (limit : ℤ) (held : Bool) (u v : Obj) → meets cq.conds (pair u v) ≡ false → ordered_pair cq limit held u v ≡ []
unmet_pair cq limit held u v h = ap (λ b. cond (held && (is_near limit u v && b)) (pair u v ∷ []) []) h ∙ by held (is_near limit u v)
  where
    by : (held near : Bool) → cond (held && (near && false)) (pair u v ∷ []) [] ≡ []
    by true true = refl
    by true false = refl
    by false near = refl

-- a pair whose first row is not held, or whose ids speak against it, is none
pub way_shut : (cq : ChunkQuery) (limit : ℤ) (held rises : Bool) (u v : Obj) → (rises ≡ true → Rises cq.conds) → (held && is_upward rises u v) ≡ false → ordered_pair cq limit held u v ≡ []
way_shut cq limit false rises u v rising h = refl
way_shut cq limit true false u v rising h = absurd (cc)
way_shut cq limit true true u v rising h = unmet_pair cq limit true u v (not_met cq.conds u v (rising refl) h)

-- of a bare query a pair with the lower id first, if it has to be, meets the conditions
pub bare_met : (cq : ChunkQuery) (rises : Bool) (u v : Obj) → IsBare rises cq → is_upward rises u v ≡ true → pair u v ∷ [] ≡ if_met cq.conds u v
bare_met cq rises u v bare up = ap (λ b. cond b (pair u v ∷ []) []) (sym (bare.conds u v ∙ up))

-- ---- the pair of a row with itself

-- a row is near enough to itself
pub own_near : (limit : ℤ) (u : Obj) → pos 0 ≤ℤ limit → is_near limit u u ≡ true
own_near limit u h = let none = no_chord u.at in le_to (chord_squared u.at u.at) limit (omega (arith, ints, none, h))

-- no two rows are near enough where the limit is below 0
pub none_near : (cq : ChunkQuery) (limit : ℤ) (held : Bool) (u : Obj) → int_le (pos 0) limit ≡ false → ordered_pair cq limit held u u ≡ []
none_near cq limit held u h = far_pair cq limit held u u (by (chord_squared u.at u.at) limit (no_chord u.at) h)
  where
    by : (chord limit : ℤ) → chord ≡ pos 0 → int_le (pos 0) limit ≡ false → int_le chord limit ≡ false
    by chord limit e h = ap (λ c. int_le c limit) e ∙ h

own_unmet : (cq : ChunkQuery) (limit : ℤ) (bounds : Bounds) (u : Obj) → Rises cq.conds → held_pair cq limit bounds u u ≡ []
own_unmet cq limit bounds u rising = unmet_pair cq limit (in_bounds bounds u.at) u u (not_met cq.conds u u rising (none u.id))
  where
    none : (a : ℤ) → int_lt a a ≡ false
    none a = grind (arith, ints)

-- ---- the pairs of a row with those behind it

only_step : (f : Obj → List Pick) (objects : List Obj) (p : ℕ) (kept places : List ℕ) (b : Bool) → (b ≡ false → f (object_at objects p) ≡ []) → flat_map f (objects_at objects kept) ≡ flat_map f (objects_at objects places)
    → flat_map f (objects_at objects (cond b (p ∷ kept) kept)) ≡ f (object_at objects p) ++ flat_map f (objects_at objects places)
only_step f objects p kept places true none rest = ap (λ l. f (object_at objects p) ++ l) rest
only_step f objects p kept places false none rest = rest ∙ ap (λ l. l ++ flat_map f (objects_at objects places)) (sym (none refl))

-- rows that have no pairs may be left out
only_near : (f : Obj → List Pick) (objects : List Obj) (test : ℕ → Bool) → ((p : ℕ) → test p ≡ false → f (object_at objects p) ≡ []) → (places : List ℕ)
    → flat_map f (objects_at objects (filter test places)) ≡ flat_map f (objects_at objects places)
only_near f objects test none [] = refl
only_near f objects test none (p ∷ places) = only_step f objects p (filter test places) places (test p) (none p) (only_near f objects test none places)

-- a row has its pairs with the rows that are near enough
pub near_are_enough : (cq : ChunkQuery) (limit : ℤ) (bounds : Bounds) (objects : List Obj) (place : ℕ) (places : List ℕ)
    → upward_pairs cq limit bounds (object_at objects place) (objects_at objects (filter (is_close objects limit place) places)) ≡ upward_pairs cq limit bounds (object_at objects place) (objects_at objects places)
near_are_enough cq limit bounds objects place places =
    let u : Obj = object_at objects place in
    ap (λ l. held_pair cq limit bounds u u ++ l)
    (only_near (both_orders cq limit bounds u) objects (is_close objects limit place) (λ p h. far_ways cq limit bounds u (object_at objects p) h) places)

-- where nothing is near enough and a row is no pair with itself it has no pairs
pub no_pairs : (cq : ChunkQuery) (limit : ℤ) (bounds : Bounds) (objects : List Obj) (place : ℕ) (places found : List ℕ) → Rises cq.conds
    → found ≡ filter (is_close objects limit place) places → found ≡ [] → upward_pairs cq limit bounds (object_at objects place) (objects_at objects places) ≡ []
no_pairs cq limit bounds objects place places found rising is none =
    let u : Obj = object_at objects place in
    sym (near_are_enough cq limit bounds objects place places)
    ∙ ap (λ l. upward_pairs cq limit bounds u (objects_at objects l)) (sym is ∙ none)
    ∙ append-nil (held_pair cq limit bounds u u) ∙ own_unmet cq limit bounds u rising

-- ---- the rows of a strip, one after the other

-- the pairs of some rows with each other, of those whose first row the bounds hold
abbrev pub among : ChunkQuery → ℤ → Bounds → List Obj → List Pick
among cq limit bounds rows = swept_pairs cq limit rows (held_rows bounds rows)

first_row : (cq : ChunkQuery) (limit : ℤ) (bounds : Bounds) (u : Obj) (rows : List Obj) → IsPermutation (upward_pairs cq limit bounds u rows ++ among cq limit bounds rows) (among cq limit bounds (u ∷ rows))
first_row cq limit bounds u rows = held_in_front (λ o. in_bounds bounds o.at) (joins limit cq.conds) pair u rows

-- What the loop over a strip keeps: what the rest of it still gives makes the pairs whole.
pub record IsSwept (cq : ChunkQuery) (limit : ℤ) (bounds : Bounds) (objects : List Obj) (places : List ℕ) (start : PieceView) (i : ℕ) (now : PieceView) : Type 0 where
  pub of_rows : IsOfRows now
  pub rest : (new : PieceView) → Gains cq (among cq limit bounds (objects_at objects (drop i places))) now new → Gains cq (among cq limit bounds (objects_at objects places)) start new

pub one_swept : (cq : ChunkQuery) (limit : ℤ) (bounds : Bounds) (objects : List Obj) (places : List ℕ) (start old mid : PieceView) (i : ℕ) → i < length places
    → Gains cq (upward_pairs cq limit bounds (object_at objects (get_or places i 0)) (objects_at objects (drop (i + 1) places))) old mid → IsOfRows mid
    → IsSwept cq limit bounds objects places start i old → IsSwept cq limit bounds objects places start (i + 1) mid
one_swept cq limit bounds objects places start old mid i l step rows so_far =
    let u : Obj = object_at objects (get_or places i 0) in
    let others : List Obj = objects_at objects (drop (i + 1) places) in
    let split : objects_at objects (drop i places) ≡ u ∷ others = ap (objects_at objects) (drop_more places i 0 l) in
    record {
      of_rows = rows;
      rest = λ new g. so_far.rest new
          (subst (λ l. Gains cq (among cq limit bounds l) old new) (sym split)
          (gains_moved cq (upward_pairs cq limit bounds u others ++ among cq limit bounds others) (among cq limit bounds (u ∷ others)) old new (first_row cq limit bounds u others)
          (gains_joined cq (upward_pairs cq limit bounds u others) (among cq limit bounds others) old mid new step g)));
    }

pub all_swept : (cq : ChunkQuery) (limit : ℤ) (bounds : Bounds) (objects : List Obj) (places : List ℕ) (start now : PieceView) (i : ℕ) → length places ≤ i
    → IsSwept cq limit bounds objects places start i now → Gains cq (among cq limit bounds (objects_at objects places)) start now
all_swept cq limit bounds objects places start now i h so_far =
    so_far.rest now (subst (λ l. Gains cq (among cq limit bounds (objects_at objects l)) now now) (sym (nothing_left places i h)) (gains_nothing cq now so_far.of_rows))
  where
    nothing_left : (places : List ℕ) (i : ℕ) → length places ≤ i → drop i places ≡ []
    nothing_left [] zero h = refl
    nothing_left [] (suc i) h = refl
    nothing_left (p ∷ places) zero h = absurd (omega (arith, h))
    nothing_left (p ∷ places) (suc i) h = nothing_left places i (omega (arith, h))
