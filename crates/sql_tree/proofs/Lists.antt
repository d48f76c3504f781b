-- Two lists, item by item.
use Rattle.std.proofs.Common.{◌≡◌, ℕ, zero, suc, ◌+◌, ◌<◌, ◌≤◌, List, [], ◌∷◌, map, take, length, get_or, refl, ap, arith}

tails : {A B : Type 0} (f : A → B) (x y : A) (xs ys : List A) → map f (x ∷ xs) ≡ map f (y ∷ ys) → map f xs ≡ map f ys
tails f x y xs ys e = cc

heads : {A B : Type 0} (f : A → B) (x y : A) (xs ys : List A) → map f (x ∷ xs) ≡ map f (y ∷ ys) → f x ≡ f y
heads f x y xs ys e = cc

pub same_lengths : {A B : Type 0} (f : A → B) (xs ys : List A) → map f xs ≡ map f ys → length xs ≡ length ys
same_lengths f [] [] e = refl
same_lengths f [] (y ∷ ys) e = absurd cc
same_lengths f (x ∷ xs) [] e = absurd cc
same_lengths f (x ∷ xs) (y ∷ ys) e = let more = same_lengths f xs ys (tails f x y xs ys e) in omega (arith, more)

pub same_item : {A B : Type 0} (f : A → B) (xs ys : List A) (i : ℕ) (d c : A) → i < length xs → map f xs ≡ map f ys → f (get_or xs i d) ≡ f (get_or ys i c)
same_item f [] ys i d c lt e = absurd (omega arith)
same_item f (x ∷ xs) [] i d c lt e = absurd cc
same_item f (x ∷ xs) (y ∷ ys) zero d c lt e = heads f x y xs ys e
same_item f (x ∷ xs) (y ∷ ys) (suc i) d c lt e = same_item f xs ys i d c (omega arith) (tails f x y xs ys e)

pub one_more : {A B : Type 0} (f : A → B) (xs ys : List A) (i : ℕ) (d c : A) → i < length xs → length xs ≡ length ys → map f (take i xs) ≡ map f (take i ys) → f (get_or xs i d) ≡ f (get_or ys i c) → map f (take (i + 1) xs) ≡ map f (take (i + 1) ys)
one_more f [] ys i d c lt le h k = absurd (omega arith)
one_more f (x ∷ xs) [] i d c lt le h k = absurd (omega arith)
one_more f (x ∷ xs) (y ∷ ys) zero d c lt le h k = ap (λ t. t ∷ []) k
one_more f (x ∷ xs) (y ∷ ys) (suc i) d c lt le h k =
    let first = heads f x y (take i xs) (take i ys) h in
    let more = one_more f xs ys i d c (omega arith) (omega arith) (tails f x y (take i xs) (take i ys) h) k in
    let e : suc i + 1 ≡ suc (i + 1) = omega arith in
    rw (e, first, more) refl

pub all_taken : {A B : Type 0} (f : A → B) (xs ys : List A) (i : ℕ) → length xs ≤ i → length xs ≡ length ys → map f (take i xs) ≡ map f (take i ys) → map f xs ≡ map f ys
all_taken f [] [] i le e h = refl
all_taken f [] (y ∷ ys) i le e h = absurd (omega arith)
all_taken f (x ∷ xs) [] i le e h = absurd (omega arith)
all_taken f (x ∷ xs) (y ∷ ys) zero le e h = absurd (omega arith)
all_taken f (x ∷ xs) (y ∷ ys) (suc i) le e h =
    let first = heads f x y (take i xs) (take i ys) h in
    let more = all_taken f xs ys i (omega arith) (omega arith) (tails f x y (take i xs) (take i ys) h) in
    rw (first, more) refl
