-- The kinds of ends, built from the first end to the last.
use Rattle.std.proofs.Common.{◌≡◌, ℕ, ◌+◌, ◌<◌, List, [], ◌∷◌, ◌++◌, length, drop, get_or, map, sym, ap, subst, ◌∙◌}
use Rattle.std.proofs.Common.{append_assoc, drop-cons, add-one}

-- the rest from some place on is what stands there, and those behind it
drop_there : {A : Type 0} (xs : List A) (i : ℕ) (d : A) → i < length xs → drop i xs ≡ get_or xs i d ∷ drop (i + 1) xs
drop_there xs i d low = rw add-one (drop-cons xs i d low)

-- the same of the element that stands there
drop_at : {A : Type 0} (xs : List A) (i : ℕ) (x : A) → i < length xs → x ≡ get_or xs i x
    → drop i xs ≡ x ∷ drop (i + 1) xs
drop_at xs i x low is = subst (λ y. drop i xs ≡ y ∷ drop (i + 1) xs) (sym is) (drop_there xs i x low)

-- what is made of the next one stands behind the others
pub one_more : {A B : Type 0} (f : A → B) (xs : List A) (i : ℕ) (x : A) (y : B) (done : List B) → i < length xs
    → x ≡ get_or xs i x → y ≡ f x → map f xs ≡ done ++ map f (drop i xs)
    → map f xs ≡ (done ++ (y ∷ [])) ++ map f (drop (i + 1) xs)
one_more f xs i x y done low is same h =
    h ∙ ap (λ t. done ++ map f t) (drop_at xs i x low is)
    ∙ ap (λ z. done ++ (z ∷ map f (drop (i + 1) xs))) (sym same)
    ∙ sym (append_assoc done (y ∷ []) (map f (drop (i + 1) xs)))
