-- Columns that get a row more, lose their last rows, or give rows at places.
use Rattle.std.proofs.Common.{◌≡◌, ◌∙◌, sym, refl, ap, ℕ, ◌+◌, ◌-◌, ◌≤◌, ◌<◌, arith, suc, zero, ◌⊎◌, subst, Result, Ok, Err, Bool, true, false, ◌==◌, nat_le, List, [], ◌∷◌, ◌++◌, length, map, take, drop, set, replicate, Option, Some, None, ℤ, pos, get_or, below_more}
use mathlib.Core.Logic.{inl, inr}
use Rattle.std.specs.Prelude.{unwrap_or, slice_get, OnErr, OnOk, All}
use Rattle.std.proofs.lemmas.List.{length-map, get_or-map, same_lists, length_push, map-append, take-append-drop, take_all, get_or-set_same, get_or-set_other, replicate-append-replicate, get_or_push, get_or_append_left, get_or_default, take_at, drop_more}
use Rattle.std.proofs.Math.Seq.{append_snoc}
use Rattle.std.proofs.lemmas.Option.{slice_get-get_or}
use Rattle.sky_vector.specs.Points.{Point}
use Rattle.table_rules.specs.Objects.{Obj, cell}
use Rattle.column_lists.specs.Columns.{Parts, AreAligned, Begins, IsFront, GathersUpTo, IsGathered, cells_behind, first_rows, row_behind}

-- a further value is the cell of its column
pub further_cell : (o : Obj) (k : ℕ) → k < length o.further → cell o (4 + k) ≡ get_or o.further k None
further_cell o k low =
    let a : (4 + k == 0) ≡ false = grind arith in
    let b : (4 + k == 1) ≡ false = grind arith in
    let c : (4 + k == 2) ≡ false = grind arith in
    let d : (4 + k == 3) ≡ false = grind arith in
    let e : 4 + k - 4 ≡ k = omega arith in
    rw (a, b, c, d, e) (ap (λ o. unwrap_or o None) (slice_get-get_or o.further k None low))

-- one empty list more
pub replicate_more : {X : Type 0} (n : ℕ) (x : X) → replicate (n + 1) x ≡ replicate n x ++ x ∷ []
replicate_more n x = sym (replicate-append-replicate n 1 x)

-- columns each of which is a front of the other's are the fronts
pub all_cut : (columns old : List (List (Option ℤ))) (n : ℕ) → length columns ≡ length old
    → ((j : ℕ) → j < length old → get_or columns j [] ≡ take n (get_or old j [])) → columns ≡ map (take n) old
all_cut columns old n count cut =
    same_lists columns (map (take n) old) (count ∙ sym (length-map old (take n)))
    (λ j d low.
    let there : j < length old = omega (arith, count, low) in
    get_or_default columns j d [] low ∙ (cut j there ∙ sym (get_or-map (take n) old j [] d there)))

-- one place more is read
pub gathers_more : {X : Type 0} (i : ℕ) (values : List X) (places : List ℕ) (found new : List X) (x : X) → length found ≡ i
    → ((d : X) → x ≡ get_or values (get_or places i 0) d) → new ≡ found ++ x ∷ [] → GathersUpTo i values places found → GathersUpTo (i + 1) values places new
gathers_more i values places found new x count read is each = λ k d low.
    below_more (λ k. get_or new k d ≡ get_or values (get_or places k 0) d) i
    (λ k low. ap (λ l. get_or l k d) is ∙ (get_or_append_left found (x ∷ []) d k (omega (arith, count, low)) ∙ each k d low))
    (ap (λ l. get_or l i d) is ∙ (get_or_push found x d i count ∙ read d)) k low

-- ---- fronts

pub front_same : {X : Type 0} (old new : List X) → new ≡ old → IsFront old new
front_same old new is = ap (take (length old)) is ∙ take_all (length old) old (omega arith)

pub front_more : {X : Type 0} (old new : List X) (x : X) → new ≡ old ++ x ∷ [] → IsFront old new
front_more old new x is = ap (take (length old)) is ∙ take_at old (x ∷ []) (length old) refl

-- columns of which the first got a value more, one maybe, and the others none
pub fronts : (old now : List (List (Option ℤ))) (cells : List (Option ℤ)) (i k : ℕ) (column : List (Option ℤ)) → i < length now
    → ((j : ℕ) → j < i → get_or now j [] ≡ get_or old j [] ++ get_or cells j None ∷ [])
    → ((j : ℕ) → i ≤ j → get_or now j [] ≡ get_or old j [])
    → IsFront (get_or now i []) column → IsFront (get_or old k []) (get_or (set now i column) k [])
fronts old now cells i k column there put rest own = by_place (compare k i)
  where
    compare : (k i : ℕ) → (k < i) ⊎ ((k ≡ i) ⊎ (i < k))
    compare k i = grind arith

    by_place : (k < i) ⊎ ((k ≡ i) ⊎ (i < k)) → IsFront (get_or old k []) (get_or (set now i column) k [])
    by_place (inl low) =
        front_more (get_or old k []) (get_or (set now i column) k []) (get_or cells k None)
        (get_or-set_other now i k column [] (λ e. omega (arith, low, e)) ∙ put k low)
    by_place (inr (inl here)) =
        let e : get_or (set now i column) k [] ≡ column = ap (λ k. get_or (set now i column) k []) here ∙ get_or-set_same now i column [] there in
        let same : get_or now i [] ≡ get_or old k [] = rest i (omega arith) ∙ ap (λ j. get_or old j []) (sym here) in
        rw e (subst (λ l. IsFront l column) same own)
    by_place (inr (inr high)) =
        front_same (get_or old k []) (get_or (set now i column) k [])
        (get_or-set_other now i k column [] (λ e. omega (arith, high, e)) ∙ rest k (omega (arith, high)))

-- columns are the same where each is
pub parts_same : (a b : Parts) → a.ids ≡ b.ids → a.xs ≡ b.xs → a.ys ≡ b.ys → a.zs ≡ b.zs → a.further ≡ b.further → a ≡ b
parts_same a b ids xs ys zs further =
    ap (λ l. record { ids = l; xs = a.xs; ys = a.ys; zs = a.zs; further = a.further }) ids
    ∙ (ap (λ l. record { ids = b.ids; xs = l; ys = a.ys; zs = a.zs; further = a.further }) xs
    ∙ (ap (λ l. record { ids = b.ids; xs = b.xs; ys = l; zs = a.zs; further = a.further }) ys
    ∙ (ap (λ l. record { ids = b.ids; xs = b.xs; ys = b.ys; zs = l; further = a.further }) zs
    ∙ ap (λ l. record { ids = b.ids; xs = b.xs; ys = b.ys; zs = b.zs; further = l }) further)))

front_of_each : (old new : List (List (Option ℤ))) (n : ℕ) → length new ≡ length old
    → ((k : ℕ) → k < length old → take n (get_or new k []) ≡ get_or old k []) → map (take n) new ≡ old
front_of_each old new n count each =
    same_lists (map (take n) new) old (length-map new (take n) ∙ count)
    (λ k d low.
    let there : k < length new = omega (arith, low, length-map new (take n)) in
    let within : k < length old = omega (arith, there, count) in
    get_or-map (take n) new k [] d there ∙ (each k within ∙ get_or_default old k [] d within))

begun_whole : (old new : Parts) → AreAligned old → IsFront old.ids new.ids → IsFront old.xs new.xs → IsFront old.ys new.ys → IsFront old.zs new.zs
    → length new.further ≡ length old.further → ((k : ℕ) → k < length old.further → IsFront (get_or old.further k []) (get_or new.further k []))
    → Begins old new
begun_whole old new aligned ids xs ys zs count each =
    parts_same (first_rows (length old.ids) new) old ids
    (ap (λ n. take n new.xs) (sym aligned.xs) ∙ xs)
    (ap (λ n. take n new.ys) (sym aligned.ys) ∙ ys)
    (ap (λ n. take n new.zs) (sym aligned.zs) ∙ zs)
    (front_of_each old.further new.further (length old.ids) count (λ k low. ap (λ n. take n (get_or new.further k [])) (sym (aligned.further k [] low)) ∙ each k low))

-- columns each of which begins as before, are the columns before where they are cut
pub begun : {A E : Type 0} (r : Result A E) (old kept new : Parts) → kept ≡ old → AreAligned old
    → IsFront kept.ids new.ids → IsFront kept.xs new.xs → IsFront kept.ys new.ys → IsFront kept.zs new.zs
    → length new.further ≡ length kept.further → OnErr r ((k : ℕ) → k < length kept.further → IsFront (get_or kept.further k []) (get_or new.further k []))
    → OnErr r (Begins old new)
begun {A} {E} (Ok a) old kept new is aligned ids xs ys zs count each = tt
begun {A} {E} (Err e) old kept new is aligned ids xs ys zs count each =
    subst (λ old. Begins old new) is (begun_whole kept new (subst AreAligned (sym is) aligned) ids xs ys zs count each)

-- the same where the further columns were not reached
pub begun_before : {A E : Type 0} (r : Result A E) (old kept new : Parts) → kept ≡ old → AreAligned old
    → IsFront kept.ids new.ids → IsFront kept.xs new.xs → IsFront kept.ys new.ys → IsFront kept.zs new.zs
    → new.further ≡ kept.further → OnErr r (Begins old new)
begun_before {A} {E} (Ok a) old kept new is aligned ids xs ys zs further = tt
begun_before {A} {E} (Err e) old kept new is aligned ids xs ys zs further =
    subst (λ old. Begins old new) is (begun_whole kept new (subst AreAligned (sym is) aligned) ids xs ys zs (ap length further)
    (λ k low. front_same (get_or kept.further k []) (get_or new.further k []) (ap (λ l. get_or l k []) further)))

pub front_self : {X : Type 0} (l : List X) → IsFront l l
front_self l = front_same l l refl

-- ---- a row more

-- one column for each
pub cells_count : (columns : List (List (Option ℤ))) (cells : List (Option ℤ)) → length cells ≡ length columns → length (cells_behind columns cells) ≡ length columns
unfolding cells_behind
cells_count [] cells same = refl
cells_count (column ∷ columns) [] same = refl
cells_count (column ∷ columns) (value ∷ cells) same = ap suc (cells_count columns cells (omega (arith, same)))

pub cells_at : (columns : List (List (Option ℤ))) (cells : List (Option ℤ)) (k : ℕ) → length cells ≡ length columns → k < length columns
    → get_or (cells_behind columns cells) k [] ≡ get_or columns k [] ++ get_or cells k None ∷ []
unfolding cells_behind
cells_at [] cells k same low = absurd (omega (arith, low))
cells_at (column ∷ columns) [] k same low = absurd (omega (arith, same))
cells_at (column ∷ columns) (value ∷ cells) zero same low = refl
cells_at (column ∷ columns) (value ∷ cells) (suc k) same low = cells_at columns cells k (omega (arith, same)) (omega (arith, low))

pub cells_are : (old new : List (List (Option ℤ))) (cells : List (Option ℤ)) → length cells ≡ length old → length new ≡ length old
    → ((k : ℕ) → k < length old → get_or new k [] ≡ get_or old k [] ++ get_or cells k None ∷ []) → new ≡ cells_behind old cells
cells_are old new cells wide count each =
    same_lists new (cells_behind old cells) (count ∙ sym (cells_count old cells wide))
    (λ k d low.
    let there : k < length old = omega (arith, low, count) in
    get_or_default new k d [] low ∙ (each k there ∙ (sym (cells_at old cells k wide there)
    ∙ get_or_default (cells_behind old cells) k [] d (omega (arith, there, cells_count old cells wide)))))

-- each column has the row's value
pub pushed : {A E : Type 0} (r : Result A E) (old kept new : Parts) (o : Obj) → kept ≡ old → length o.further ≡ length old.further
    → new.ids ≡ kept.ids ++ o.id ∷ [] → new.xs ≡ kept.xs ++ o.at.x ∷ [] → new.ys ≡ kept.ys ++ o.at.y ∷ [] → new.zs ≡ kept.zs ++ o.at.z ∷ []
    → length new.further ≡ length kept.further
    → OnOk r ((k : ℕ) → k < length kept.further → get_or new.further k [] ≡ get_or kept.further k [] ++ get_or o.further k None ∷ [])
    → OnOk r (new ≡ row_behind old o)
pushed {A} {E} (Err e) old kept new o is wide ids xs ys zs count each = tt
pushed {A} {E} (Ok a) old kept new o is wide ids xs ys zs count each =
    subst (λ old. new ≡ row_behind old o) is (
    parts_same new (row_behind kept o) ids xs ys zs
    (cells_are kept.further new.further o.further (wide ∙ sym (ap (λ p. length p.further) is)) count each))

-- what holds anyhow holds where there is no memory
pub any_err : {A E : Type 0} (r : Result A E) (P : Type 0) → P → OnErr r P
any_err {A} {E} (Ok a) P h = tt
any_err {A} {E} (Err e) P h = h

-- one of a list more is turned into what belongs to it
pub turned_more : {X Y : Type 0} (f : X → Y) (found new whole : List Y) (xs : List X) (k : ℕ) (x : X) → k < length xs → x ≡ get_or xs k x
    → new ≡ found ++ f x ∷ [] → found ++ map f (drop k xs) ≡ whole → new ++ map f (drop (k + 1) xs) ≡ whole
turned_more f found new whole xs k x low read is so_far =
    ap (λ l. l ++ map f (drop (k + 1) xs)) is
    ∙ (append_snoc found (f x) (map f (drop (k + 1) xs))
    ∙ (ap (λ l. found ++ map f l) (ap (λ y. y ∷ drop (k + 1) xs) read ∙ sym (drop_more xs k x low)) ∙ so_far))

-- the first of a list and the others are turned apart
pub turned_both : {X Y : Type 0} (f : X → Y) (xs : List X) (at : ℕ) (first second whole : List Y) → first ≡ map f (take at xs) → second ≡ map f (drop at xs)
    → whole ≡ first ++ second → whole ≡ map f xs
turned_both f xs at first second whole a b is =
    is
    ∙ (ap (λ l. l ++ second) a
    ∙ (ap (λ l. map f (take at xs) ++ l) b
    ∙ (sym (map-append f (take at xs) (drop at xs)) ∙ ap (map f) (take-append-drop at xs))))

-- a point is the same where its parts are
pub point_same : (x y z u v w : ℤ) → x ≡ u → y ≡ v → z ≡ w → ◌≡◌ {A = Point} (record { x = x; y = y; z = z }) (record { x = u; y = v; z = w })
point_same x y z u v w a b c = rw (a, b, c) refl
