-- Two lists whose elements belong together one by one.
use Rattle.std.proofs.Common.{◌≡◌, ap, refl, subst, ℕ, zero, suc, arith, List, [], ◌∷◌, ◌++◌, length, map, None, Some, Option, slice_get}
use Rattle.std.specs.List.{AllZip}

pub none_is : {X : Type 0} (x : X) → ◌≡◌ {A = Option X} None (Some x) → ⊥
none_is x e = absurd (cc)

pub same_some : {X : Type 0} (x y : X) → ◌≡◌ {A = Option X} (Some x) (Some y) → x ≡ y
same_some x y e = cc

-- the lists are equally long
pub zip_length : {X Y : Type 0} (R : X → Y → Type 0) (xs : List X) (ys : List Y) → AllZip R xs ys → length ys ≡ length xs
zip_length R [] [] all = refl
zip_length R [] (y ∷ ys) all = absurd all
zip_length R (x ∷ xs) [] all = absurd all
zip_length R (x ∷ xs) (y ∷ ys) all = ap suc (zip_length R xs ys all.1)

-- one more of each
pub zip_more : {X Y : Type 0} (R : X → Y → Type 0) (xs : List X) (ys : List Y) (x : X) (y : Y) → AllZip R xs ys → R x y
    → AllZip R (xs ++ x ∷ []) (ys ++ y ∷ [])
zip_more R [] [] x y all is = (is, tt)
zip_more R [] (b ∷ ys) x y all is = absurd all
zip_more R (a ∷ xs) [] x y all is = absurd all
zip_more R (a ∷ xs) (b ∷ ys) x y all is = (all.0, zip_more R xs ys x y all.1 is)

-- the elements at an index belong together
pub zip_at : {X Y : Type 0} (R : X → Y → Type 0) (xs : List X) (ys : List Y) (i : ℕ) (x : X) (y : Y) → AllZip R xs ys
    → slice_get xs i ≡ Some x → slice_get ys i ≡ Some y → R x y
zip_at R [] ys i x y all here there = absurd (none_is x here)
zip_at R (a ∷ xs) [] i x y all here there = absurd (none_is y there)
zip_at R (a ∷ xs) (b ∷ ys) zero x y all here there =
    subst (λ u. R u y) (same_some a x here) (subst (λ v. R a v) (same_some b y there) all.0)
zip_at R (a ∷ xs) (b ∷ ys) (suc i) x y all here there = zip_at R xs ys i x y all.1 here there

-- an element of the second list has one of the first
pub zip_first : {X Y : Type 0} (R : X → Y → Type 0) (xs : List X) (ys : List Y) (i : ℕ) (y : Y) → AllZip R xs ys
    → slice_get ys i ≡ Some y → (x : X) × (slice_get xs i ≡ Some x) × R x y
zip_first R [] [] i y all there = absurd (none_is y there)
zip_first R [] (b ∷ ys) i y all there = absurd all
zip_first R (a ∷ xs) [] i y all there = absurd all
zip_first R (a ∷ xs) (b ∷ ys) zero y all there = (a, refl, subst (λ v. R a v) (same_some b y there) all.0)
zip_first R (a ∷ xs) (b ∷ ys) (suc i) y all there = zip_first R xs ys i y all.1 there

-- and an element of the first list has one of the second
pub zip_second : {X Y : Type 0} (R : X → Y → Type 0) (xs : List X) (ys : List Y) (i : ℕ) (x : X) → AllZip R xs ys
    → slice_get xs i ≡ Some x → (y : Y) × (slice_get ys i ≡ Some y) × R x y
zip_second R [] ys i x all here = absurd (none_is x here)
zip_second R (a ∷ xs) [] i x all here = absurd all
zip_second R (a ∷ xs) (b ∷ ys) zero x all here = (b, refl, subst (λ u. R u b) (same_some a x here) all.0)
zip_second R (a ∷ xs) (b ∷ ys) (suc i) x all here = zip_second R xs ys i x all.1 here

-- what a list maps to an element comes from one at its index
pub from_map : {A B : Type 0} (f : A → B) (xs : List A) (i : ℕ) (y : B) → slice_get (map f xs) i ≡ Some y
    → (x : A) × (slice_get xs i ≡ Some x) × (f x ≡ y)
from_map f [] i y there = absurd (none_is y there)
from_map f (x ∷ xs) zero y there = (x, refl, same_some (f x) y there)
from_map f (x ∷ xs) (suc i) y there = from_map f xs i y there

-- what belongs together at each index does so in the lists
pub zip_by : {X Y : Type 0} (R : X → Y → Type 0) (xs : List X) (ys : List Y) → length ys ≡ length xs
    → ((i : ℕ) (x : X) (y : Y) → slice_get xs i ≡ Some x → slice_get ys i ≡ Some y → R x y) → AllZip R xs ys
zip_by R [] [] same each = tt
zip_by R [] (y ∷ ys) same each = absurd (omega (arith, same))
zip_by R (x ∷ xs) [] same each = absurd (omega (arith, same))
zip_by R (x ∷ xs) (y ∷ ys) same each =
    (each 0 x y refl refl, zip_by R xs ys (omega (arith, same)) (λ i a b here there. each (suc i) a b here there))
