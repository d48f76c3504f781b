-- Lists that a loop builds from one end to the other.
use Rattle.std.proofs.Common.{Option, None, Some, append-nil, ◌≡◌, ℕ, ◌+◌, ◌<◌, ◌≤◌, List, [], ◌∷◌, ◌++◌, map, length, drop, get_or, refl, sym, ap, ◌∙◌, subst, append_assoc, drop-cons, add-one}
use Rattle.std.proofs.lemmas.List.{drop_all}
use Rattle.std.specs.List.{flat_map}
use Rattle.std.specs.Option.{option_map}
use Rattle.bind_rules.specs.Wholes.{before, all_there}

-- the rest from some place on is what stands there, and those behind it
pub drop_there : {A : Type 0} (xs : List A) (i : ℕ) (d : A) → i < length xs → drop i xs ≡ get_or xs i d ∷ drop (i + 1) xs
drop_there xs i d low = rw add-one (drop-cons xs i d low)

-- the rest from some place on begins with the element there
pub drop_at : {A : Type 0} (xs : List A) (i : ℕ) (x : A) → i < length xs → x ≡ get_or xs i x → drop i xs ≡ x ∷ drop (i + 1) xs
drop_at xs i x low is = subst (λ y. drop i xs ≡ y ∷ drop (i + 1) xs) (sym is) (drop_there xs i x low)

-- one more is taken over
pub map_more : {A B : Type 0} (f : A → B) (xs : List A) (i : ℕ) (x : A) (done : List B) → i < length xs → x ≡ get_or xs i x → map f xs ≡ done ++ map f (drop i xs) → map f xs ≡ (done ++ (f x ∷ [])) ++ map f (drop (i + 1) xs)
map_more f xs i x done low is h = h ∙ ap (λ t. done ++ map f t) (drop_at xs i x low is) ∙ sym (append_assoc done (f x ∷ []) (map f (drop (i + 1) xs)))

-- one function behind the other
pub map_twice : {A B C : Type 0} (g : B → C) (f : A → B) (xs : List A) → map g (map f xs) ≡ map (λ x. g (f x)) xs
map_twice g f [] = refl
map_twice g f (x ∷ xs) = ap (λ t. g (f x) ∷ t) (map_twice g f xs)

-- ---- lists one behind another

pub flat_map_twice : {A B C : Type 0} (g : B → List C) (f : A → B) (xs : List A) → flat_map g (map f xs) ≡ flat_map (λ x. g (f x)) xs
flat_map_twice g f [] = refl
flat_map_twice g f (x ∷ xs) = ap (λ t. g (f x) ++ t) (flat_map_twice g f xs)

-- one more list is put behind what was there before
pub flat_more : {A B : Type 0} (f : A → List B) (xs : List A) (i : ℕ) (x : A) (whole done : List B) → i < length xs → x ≡ get_or xs i x → whole ≡ done ++ flat_map f (drop i xs) → whole ≡ (done ++ f x) ++ flat_map f (drop (i + 1) xs)
flat_more f xs i x whole done low is h = h ∙ ap (λ t. done ++ flat_map f t) (drop_at xs i x low is) ∙ sym (append_assoc done (f x) (flat_map f (drop (i + 1) xs)))

-- the first, and then the rest
pub then_rest : {B : Type 0} (old first rest now end : List B) → now ≡ old ++ first → end ≡ now ++ rest → end ≡ old ++ (first ++ rest)
then_rest old first rest now end h k = k ∙ ap (λ t. t ++ rest) h ∙ append_assoc old first rest

-- ---- values that may be there

-- before any is taken
pub there_none : {A : Type 0} (all : Option (List A)) → all ≡ option_map (λ ys. [] ++ ys) all
there_none None = refl
there_none (Some xs) = refl

there_step : {A : Type 0} (done : List A) (y : A) (rest : Option (List A)) → option_map (λ ys. done ++ ys) (before (Some y) rest) ≡ option_map (λ ys. (done ++ (y ∷ [])) ++ ys) rest
there_step done y None = refl
there_step done y (Some ys) = ap Some (sym (append_assoc done (y ∷ []) ys))

-- one more is there
pub there_more : {X A : Type 0} (f : X → Option A) (xs : List X) (i : ℕ) (x : X) (y : A) (done : List A) (all : Option (List A)) → i < length xs → x ≡ get_or xs i x → f x ≡ Some y → all ≡ option_map (λ ys. done ++ ys) (all_there (map f (drop i xs))) → all ≡ option_map (λ ys. (done ++ (y ∷ [])) ++ ys) (all_there (map f (drop (i + 1) xs)))
there_more f xs i x y done all low is some h =
    h ∙ ap (λ t. option_map (λ ys. done ++ ys) (all_there (map f t))) (drop_at xs i x low is)
    ∙ ap (λ t. option_map (λ ys. done ++ ys) (before t (all_there (map f (drop (i + 1) xs))))) some
    ∙ there_step done y (all_there (map f (drop (i + 1) xs)))

-- one is not there
pub there_stops : {X A : Type 0} (f : X → Option A) (xs : List X) (i : ℕ) (x : X) (done : List A) (all : Option (List A)) → i < length xs → x ≡ get_or xs i x → f x ≡ None → all ≡ option_map (λ ys. done ++ ys) (all_there (map f (drop i xs))) → all ≡ None
there_stops f xs i x done all low is none h =
    h ∙ ap (λ t. option_map (λ ys. done ++ ys) (all_there (map f t))) (drop_at xs i x low is)
    ∙ ap (λ t. option_map (λ ys. done ++ ys) (before t (all_there (map f (drop (i + 1) xs))))) none

-- all are taken
pub there_end : {X A : Type 0} (f : X → Option A) (xs : List X) (i : ℕ) (done : List A) (all : Option (List A)) → length xs ≤ i → all ≡ option_map (λ ys. done ++ ys) (all_there (map f (drop i xs))) → all ≡ Some done
there_end f xs i done all high h = h ∙ ap (λ t. option_map (λ ys. done ++ ys) (all_there (map f t))) (drop_all i xs high) ∙ ap Some (append-nil done)
