-- Parts are added up one by one.
use Rattle.std.proofs.Common.{◌≡◌, ℕ, zero, suc, ◌+◌, ◌-◌, ◌<◌, ◌≤◌, List, [], ◌∷◌, ◌++◌, length, take, drop, get_or, refl, sym, ap, subst, ◌∙◌, arith}
use Rattle.std.specs.Prelude.{slice_range}
use Rattle.std.proofs.Math.ListN.{get_or-append}
use Rattle.std.proofs.lemmas.List.{append_assoc, get_or-drop, get_or-take, take_more, length-take, length-drop}
use Rattle.answer_rules.specs.Parts.{Part, add_own, add_own_parts, count_part}
use Rattle.partial_groups.specs.Adding.{AllMayAdd, MayAdd, part_in}

-- ---- at a place

pub add_at : (xs ys : List Part) (i : ℕ) (d : Part) → i < length xs → i < length ys → get_or (add_own_parts xs ys) i d ≡ add_own (get_or xs i d) (get_or ys i d)
add_at [] ys i d h k = absurd (omega (arith, h))
add_at (x ∷ xs) [] i d h k = absurd (omega (arith, k))
add_at (x ∷ xs) (y ∷ ys) zero d h k = refl
add_at (x ∷ xs) (y ∷ ys) (suc i) d h k = add_at xs ys i d (omega (arith, h)) (omega (arith, k))

pub add_long : (xs ys : List Part) → length xs ≡ length ys → length (add_own_parts xs ys) ≡ length xs
add_long [] ys e = refl
add_long (x ∷ xs) [] e = absurd (omega (arith, e))
add_long (x ∷ xs) (y ∷ ys) e = omega (arith, add_long xs ys (omega (arith, e)))

may_at : (xs ys : List Part) (i : ℕ) (d : Part) → AllMayAdd xs ys → i < length xs → i < length ys → MayAdd (get_or xs i d) (get_or ys i d)
may_at [] ys i d a h k = absurd (omega (arith, h))
may_at (x ∷ xs) [] i d a h k = absurd (omega (arith, k))
may_at (x ∷ xs) (y ∷ ys) zero d a h k = a.0
may_at (x ∷ xs) (y ∷ ys) (suc i) d a h k = may_at xs ys i d a.1 (omega (arith, h)) (omega (arith, k))

-- ---- a part of the list

pub range_long : (xs : List Part) (a w : ℕ) → a + w ≤ length xs → length (slice_range xs a (a + w)) ≡ w
range_long xs a w h = omega (arith, h, length-take ((a + w) - a) (drop a xs), length-drop a xs)

range_at : (xs more : List Part) (a w i : ℕ) → i < w → a + w ≤ length xs → part_in (xs ++ more) (a + i) ≡ part_in (slice_range xs a (a + w)) i
range_at xs more a w i l h =
    get_or-append xs more (count_part 0) (a + i) (omega (arith, l, h))
    ∙ sym (get_or-take ((a + w) - a) (drop a xs) i (count_part 0) (omega (arith, l)) ∙ get_or-drop a xs i (count_part 0))

pub range_own : (xs : List Part) (a w i : ℕ) → i < w → part_in xs (a + i) ≡ part_in (slice_range xs a (a + w)) i
range_own xs a w i l = sym (get_or-take ((a + w) - a) (drop a xs) i (count_part 0) (omega (arith, l)) ∙ get_or-drop a xs i (count_part 0))

-- an aggregate state of the table and one of the new table may be combined, whatever follows
pub may_add_at : (ys xs more : List Part) (a b w i : ℕ) → i < w → a + w ≤ length ys → b + w ≤ length xs → AllMayAdd (slice_range ys a (a + w)) (slice_range xs b (b + w)) → MayAdd (part_in ys (a + i)) (part_in (xs ++ more) (b + i))
may_add_at ys xs more a b w i l h k m =
    subst (λ p. MayAdd p (part_in (xs ++ more) (b + i))) (sym (range_own ys a w i l))
    (subst (MayAdd (part_in (slice_range ys a (a + w)) i)) (sym (range_at xs more b w i l k))
    (may_at (slice_range ys a (a + w)) (slice_range xs b (b + w)) i (count_part 0) m (omega (arith, l, range_long ys a w h)) (omega (arith, l, range_long xs b w k))))

-- an aggregate state of one table and one of another may be combined
pub may_add_in : (ys xs : List Part) (a b w i : ℕ) → i < w → a + w ≤ length ys → b + w ≤ length xs → AllMayAdd (slice_range ys a (a + w)) (slice_range xs b (b + w)) → MayAdd (part_in ys (a + i)) (part_in xs (b + i))
may_add_in ys xs a b w i l h k m =
    subst (λ p. MayAdd p (part_in xs (b + i))) (sym (range_own ys a w i l))
    (subst (MayAdd (part_in (slice_range ys a (a + w)) i)) (sym (range_own xs b w i l))
    (may_at (slice_range ys a (a + w)) (slice_range xs b (b + w)) i (count_part 0) m (omega (arith, l, range_long ys a w h)) (omega (arith, l, range_long xs b w k))))

-- one element more of a list that is put behind another one
next_of : (xs old new whole : List Part) (i : ℕ) (p : Part) → i < length whole → old ≡ xs ++ take i whole → p ≡ get_or whole i (count_part 0) → new ≡ old ++ p ∷ [] → new ≡ xs ++ take (i + 1) whole
next_of xs old new whole i p l e here g =
    g ∙ ap (λ o. o ++ p ∷ []) e ∙ append_assoc xs (take i whole) (p ∷ [])
    ∙ ap (λ q. xs ++ (take i whole ++ q ∷ [])) here ∙ ap (λ t. xs ++ t) (sym (take_more whole i (count_part 0) l))

pub sums_long : (ys xs : List Part) (a b w : ℕ) → a + w ≤ length ys → b + w ≤ length xs → length (add_own_parts (slice_range ys a (a + w)) (slice_range xs b (b + w))) ≡ w
sums_long ys xs a b w h k = add_long (slice_range ys a (a + w)) (slice_range xs b (b + w)) (range_long ys a w h ∙ sym (range_long xs b w k)) ∙ range_long ys a w h

-- one sum more
pub one_sum_more : (ys xs old new : List Part) (a b w i : ℕ) (sum : Part) → i < w → a + w ≤ length ys → b + w ≤ length xs → old ≡ xs ++ take i (add_own_parts (slice_range ys a (a + w)) (slice_range xs b (b + w))) → sum ≡ add_own (part_in ys (a + i)) (part_in old (b + i)) → new ≡ old ++ sum ∷ [] → new ≡ xs ++ take (i + 1) (add_own_parts (slice_range ys a (a + w)) (slice_range xs b (b + w)))
one_sum_more ys xs old new a b w i sum l h k e f g =
    let mine : List Part = slice_range ys a (a + w) in
    let bs : List Part = slice_range xs b (b + w) in
    let sums : List Part = add_own_parts mine bs in
    let here : sum ≡ get_or sums i (count_part 0) =
    f ∙ ap (λ o. add_own (part_in ys (a + i)) (part_in o (b + i))) e
    ∙ ap (λ p. add_own p (part_in (xs ++ take i sums) (b + i))) (range_own ys a w i l)
    ∙ ap (add_own (part_in mine i)) (range_at xs (take i sums) b w i l k)
    ∙ sym (add_at mine bs i (count_part 0) (omega (arith, l, range_long ys a w h)) (omega (arith, l, range_long xs b w k)))
    in
    next_of xs old new sums i sum (omega (arith, l, sums_long ys xs a b w h k)) e here g

-- one part more
pub one_part_more : (ys xs old new : List Part) (a w i : ℕ) (part : Part) → i < w → a + w ≤ length ys → old ≡ xs ++ take i (slice_range ys a (a + w)) → part ≡ part_in ys (a + i) → new ≡ old ++ part ∷ [] → new ≡ xs ++ take (i + 1) (slice_range ys a (a + w))
one_part_more ys xs old new a w i part l h e f g =
    next_of xs old new (slice_range ys a (a + w)) i part (omega (arith, l, range_long ys a w h)) e (f ∙ range_own ys a w i l) g

take_all : (ps : List Part) → take (length ps) ps ≡ ps
take_all [] = refl
take_all (p ∷ ps) = ap (λ l. p ∷ l) (take_all ps)

-- all sums
pub all_sums : (ys xs : List Part) (a b w : ℕ) → a + w ≤ length ys → b + w ≤ length xs → take w (add_own_parts (slice_range ys a (a + w)) (slice_range xs b (b + w))) ≡ add_own_parts (slice_range ys a (a + w)) (slice_range xs b (b + w))
all_sums ys xs a b w h k =
    let sums : List Part = add_own_parts (slice_range ys a (a + w)) (slice_range xs b (b + w)) in
    ap (λ n. take n sums) (sym (sums_long ys xs a b w h k)) ∙ take_all sums

-- all parts
pub all_parts : (ys : List Part) (a w : ℕ) → a + w ≤ length ys → take w (slice_range ys a (a + w)) ≡ slice_range ys a (a + w)
all_parts ys a w h = ap (λ n. take n (slice_range ys a (a + w))) (sym (range_long ys a w h)) ∙ take_all (slice_range ys a (a + w))
