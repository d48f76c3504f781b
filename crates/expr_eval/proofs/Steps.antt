-- A list from a place on, as a loop goes over it.
use denote.Param.Weighed.{at_most, most as deepest}
use Rattle.std.proofs.Common.{◌≡◌, ℕ, ◌+◌, ◌<◌, ◌≤◌, List, ◌∷◌, map, length, drop, get_or, sym, ap, subst}
use Rattle.std.proofs.Common.{drop-cons, add-one}

-- from a place on there is what stands there, and then the rest
pub here_at : {A : Type 0} (xs : List A) (i : ℕ) (d : A) → i < length xs → drop i xs ≡ get_or xs i d ∷ drop (i + 1) xs
here_at xs i d low = rw add-one (drop-cons xs i d low)

-- the same of the element that stands there
pub here : {A : Type 0} (xs : List A) (i : ℕ) (x : A) → i < length xs → x ≡ get_or xs i x
    → drop i xs ≡ x ∷ drop (i + 1) xs
here xs i x low is = subst (λ y. drop i xs ≡ y ∷ drop (i + 1) xs) (sym is) (here_at xs i x low)

-- and of what a function gives of each
pub next : {A B : Type 0} (f : A → B) (xs : List A) (i : ℕ) (x : A) → i < length xs → x ≡ get_or xs i x
    → map f (drop i xs) ≡ f x ∷ map f (drop (i + 1) xs)
next f xs i x low is = ap (map f) (here xs i x low is)

-- what stands at a place is no deeper than the deepest
pub item_depth : {X : Type 0} (depth : X → ℕ) (xs ys : List X) (i : ℕ) (x : X) → i < length xs → x ≡ get_or xs i x
    → xs ≡ ys → depth x ≤ deepest depth ys
item_depth depth xs ys i x low is same =
    subst (λ zs. depth x ≤ deepest depth zs) same
    (subst (λ y. depth y ≤ deepest depth xs) (sym is) (at_most depth xs i x low))
