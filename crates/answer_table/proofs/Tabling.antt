-- Rows of equal length, one behind the other, are the table of them.
use Rattle.std.proofs.Common.{◌≡◌, ℕ, zero, suc, ◌+◌, ◌-◌, ◌*◌, ◌<◌, ◌≤◌, List, [], ◌∷◌, ◌++◌, map, length, length-append, get_or, take, drop, Some, refl, sym, ap, ◌∙◌, arith}
use Rattle.std.specs.List.{All, AllByRecursion as Each, flat_map}
use Rattle.std.specs.Prelude.{slice_get, slice_range}
use Rattle.std.proofs.Math.Nat.{suc-mul}
use Rattle.std.proofs.Math.Seq.{drop-append_seam, take-append_seam}
use Rattle.std.proofs.lemmas.Grind.{flat_map-append}
use Rattle.std.proofs.lemmas.List.{append_assoc, drop-drop, map-append, take_more}
use Rattle.std.proofs.lemmas.Nat.{mul-le}
use Rattle.std.proofs.lemmas.List.Elements.{All-from_recursion, recursion_from_All}
use Rattle.answer_rules.specs.declared.value.Value.{Value}
use Rattle.answer_rules.proofs.Apart.{each-append}
use Rattle.answer_table.specs.Tables.{IsShort, Lines, table_of}

-- ---- any rows

pub flat_long : {X : Type 0} (f : X → List Value) (w : ℕ) → ((x : X) → length (f x) ≡ w) → (xs : List X) → length (flat_map f xs) ≡ length xs * w
flat_long f w e [] = no_rows w
  where
    no_rows : (w : ℕ) → 0 ≡ 0 * w
    no_rows w = omega arith
flat_long f w e (x ∷ xs) =
    length-append (f x) (flat_map f xs) ∙ ap (λ n. n + length (flat_map f xs)) (e x) ∙ ap (λ n. w + n) (flat_long f w e xs) ∙ one_more_row w (length xs)
  where
    one_more_row : (w n : ℕ) → w + n * w ≡ suc n * w
    one_more_row w n = omega (arith, suc-mul n w)

take_front : (w : ℕ) (xs ys : List Value) → length xs ≡ w → take w (xs ++ ys) ≡ xs
take_front w xs ys e = ap (λ n. take n (xs ++ ys)) (sym e) ∙ take-append_seam xs ys

drop_front : (w : ℕ) (xs ys : List Value) → length xs ≡ w → drop w (xs ++ ys) ≡ ys
drop_front w xs ys e = ap (λ n. drop n (xs ++ ys)) (sym e) ∙ drop-append_seam xs ys

pub flat_table : {X : Type 0} (f : X → List Value) (w : ℕ) → ((x : X) → length (f x) ≡ w) → (xs : List X) → table_of (length xs) w (flat_map f xs) ≡ map f xs
flat_table f w e [] = refl
flat_table f w e (x ∷ xs) =
    ap (λ r. r ∷ table_of (length xs) w (drop w (f x ++ flat_map f xs))) (take_front w (f x) (flat_map f xs) (e x))
    ∙ ap (λ vs. f x ∷ table_of (length xs) w vs) (drop_front w (f x) (flat_map f xs) (e x))
    ∙ ap (λ l. f x ∷ l) (flat_table f w e xs)

pub flat_short : {X : Type 0} (f : X → List Value) → ((x : X) → Each IsShort (f x)) → (xs : List X) → Each IsShort (flat_map f xs)
flat_short f h [] = tt
flat_short f h (x ∷ xs) = each-append IsShort (f x) (flat_map f xs) (h x) (flat_short f h xs)

-- ---- rows of a multiset

pub map_map : {A B C : Type 0} (f : A → B) (h : B → C) (xs : List A) → map h (map f xs) ≡ map (λ a. h (f a)) xs
map_map f h [] = refl
map_map f h (x ∷ xs) = ap (λ l. h (f x) ∷ l) (map_map f h xs)

-- ---- any rows, one after the other

pub one_more : {X : Type 0} (f : X → List Value) (xs : List X) (i : ℕ) (d : X) (old new : List Value) → i < length xs → d ≡ get_or xs i d → new ≡ old ++ f d → old ≡ flat_map f (take i xs) → new ≡ flat_map f (take (i + 1) xs)
one_more f xs i d old new l is e g =
    e ∙ ap (λ x. old ++ f x) is ∙ ap (λ vs. vs ++ f (get_or xs i d)) g ∙ ap (λ vs. flat_map f (take i xs) ++ vs) (sym (append_none (f (get_or xs i d))))
    ∙ sym (flat_map-append f (take i xs) (get_or xs i d ∷ [])) ∙ ap (flat_map f) (sym (take_more xs i d l))
  where
    append_none : (xs : List Value) → xs ++ [] ≡ xs
    append_none [] = refl
    append_none (x ∷ xs) = ap (λ l. x ∷ l) (append_none xs)

-- one value more
pub one_value_more : {X : Type 0} (f : X → Value) (xs : List X) (i : ℕ) (d : X) (start old new : List Value) (v : Value) → i < length xs → d ≡ get_or xs i d → v ≡ f d → new ≡ old ++ v ∷ [] → old ≡ start ++ map f (take i xs) → new ≡ start ++ map f (take (i + 1) xs)
one_value_more f xs i d start old new v l is e g h =
    g ∙ ap (λ vs. vs ++ v ∷ []) h ∙ append_assoc start (map f (take i xs)) (v ∷ []) ∙ ap (λ w. start ++ (map f (take i xs) ++ w ∷ [])) (e ∙ ap f is)
    ∙ ap (λ vs. start ++ vs) (sym (map-append f (take i xs) (get_or xs i d ∷ []))) ∙ ap (λ ys. start ++ map f ys) (sym (take_more xs i d l))

-- and it is short too
pub short_too : (values : List Value) (v : Value) → All IsShort values → IsShort v → All IsShort (values ++ v ∷ [])
short_too values v h k = All-from_recursion IsShort (values ++ v ∷ []) (each-append IsShort values (v ∷ []) (recursion_from_All IsShort values h) (k, tt))

-- ---- one row of a table

pub length_table : (rows w : ℕ) (vs : List Value) → length (table_of rows w vs) ≡ rows
length_table zero w vs = refl
length_table (suc rows) w vs = omega (arith, length_table rows w (drop w vs))

pub row_fits : (i rows w : ℕ) → i < rows → i * w + w ≤ rows * w
row_fits i rows w l = one_more_row i w rows (mul-le (suc i) w rows w (omega (arith, l)) (omega arith))
  where
    one_more_row : (i w rows : ℕ) → suc i * w ≤ rows * w → i * w + w ≤ rows * w
    one_more_row i w rows h = omega (arith, suc-mul i w, h)

first_row : (w : ℕ) (vs : List Value) → drop (0 * w) vs ≡ vs
first_row w vs = ap (λ n. drop n vs) (none w)
  where
    none : (w : ℕ) → 0 * w ≡ 0
    none w = omega arith

row_at_place : (rows w : ℕ) (vs : List Value) (i : ℕ) → i < rows → slice_get (table_of rows w vs) i ≡ Some (take w (drop (i * w) vs))
row_at_place zero w vs i l = absurd (omega (arith, l))
row_at_place (suc rows) w vs zero l = ap (λ xs. Some (take w xs)) (sym (first_row w vs))
row_at_place (suc rows) w vs (suc i) l =
    row_at_place rows w (drop w vs) i (omega (arith, l)) ∙ ap (λ xs. Some (take w xs)) (drop-drop (i * w) w vs)
    ∙ ap (λ n. Some (take w (drop n vs))) (one_more w i)
  where
    one_more : (w i : ℕ) → w + i * w ≡ suc i * w
    one_more w i = omega (arith, suc-mul i w)

-- the row at a place of the table is the part of its values there
pub row_at : (rows w : ℕ) (vs : List Value) (i : ℕ) → i < rows → slice_get (table_of rows w vs) i ≡ Some (slice_range vs (i * w) (i * w + w))
row_at rows w vs i l = row_at_place rows w vs i l ∙ ap (λ n. Some (take n (drop (i * w) vs))) (width (i * w) w)
  where
    width : (a w : ℕ) → w ≡ (a + w) - a
    width a w = omega arith

-- in a table that is seen as its rows, the row at a place fits
pub place_fits : (i rows w : ℕ) (vs : List Value) (lines : Lines) → table_of rows w vs ≡ lines → length vs ≡ rows * w → i < length lines → i * w + w ≤ length vs
place_fits i rows w vs lines e l h = omega (arith, row_fits i rows w (omega (arith, h, ap length e, length_table rows w vs)), l)

pub place_at : (i rows w : ℕ) (vs : List Value) (lines : Lines) → table_of rows w vs ≡ lines → i < length lines → slice_get lines i ≡ Some (slice_range vs (i * w) (i * w + w))
place_at i rows w vs lines e h = ap (λ ls. slice_get ls i) (sym e) ∙ row_at rows w vs i (omega (arith, h, ap length e, length_table rows w vs))

each_drop : (n : ℕ) (vs : List Value) → Each IsShort vs → Each IsShort (drop n vs)
each_drop zero vs h = h
each_drop (suc n) [] h = h
each_drop (suc n) (v ∷ vs) h = each_drop n vs h.1

each_take : (n : ℕ) (vs : List Value) → Each IsShort vs → Each IsShort (take n vs)
each_take zero vs h = tt
each_take (suc n) [] h = tt
each_take (suc n) (v ∷ vs) h = (h.0, each_take n vs h.1)

pub part_short : (a b : ℕ) (vs : List Value) → All IsShort vs → All IsShort (slice_range vs a b)
part_short a b vs h = All-from_recursion IsShort _ (each_take (b - a) (drop a vs) (each_drop a vs (recursion_from_All IsShort vs h)))
