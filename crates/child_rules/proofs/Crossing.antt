-- Two lists crossed: the pairs that a test passes, by the one list or by the other, and filters of them.
use Rattle.std.proofs.Common.{◌≡◌, Bool, true, false, cond, ◌&&◌, List, [], ◌∷◌, ◌++◌, append_assoc, map, filter, refl, sym, ap, subst, ◌∙◌, IsPermutation}
use Rattle.std.specs.List.{flat_map}
use Rattle.std.proofs.lemmas.List.Elements.{filter-append}
use Rattle.std.proofs.lemmas.List.Sorted.{IsPermutation-refl, IsPermutation-sym, IsPermutation-trans, IsPermutation-cons, IsPermutation-append_left, IsPermutation-append_right, IsPermutation-append_comm}

-- a block in the middle comes to the front
to_front : {Y : Type 0} (xs ys zs : List Y) → IsPermutation (xs ++ (ys ++ zs)) (ys ++ (xs ++ zs))
to_front xs ys zs =
    subst (λ l. IsPermutation l (ys ++ (xs ++ zs))) (append_assoc xs ys zs)
    (subst (IsPermutation ((xs ++ ys) ++ zs)) (append_assoc ys xs zs) (IsPermutation-append_left zs (xs ++ ys) (ys ++ xs) (IsPermutation-append_comm xs ys)))

no_blocks : {A Y : Type 0} (xs : List A) → flat_map (λ (x : A). let none : List Y = [] in none) xs ≡ []
no_blocks [] = refl
no_blocks (x ∷ xs) = no_blocks xs

module _ {A B Y : Type 0} (r : A → B → Bool) (f : A → B → Y) where
  -- of one element with those of the other list
  abbrev ones : A → List B → List Y
  ones a bs = map (f a) (filter (r a) bs)

  -- and the other way round
  abbrev others : List A → B → List Y
  others xs b = map (λ a. f a b) (filter (λ a. r a b) xs)

  one_step : (a : A) (b : B) (xs : List A) (bs : List B) (t : Bool) → IsPermutation (flat_map (others (a ∷ xs)) bs) (ones a bs ++ flat_map (others xs) bs)
      → IsPermutation (map (λ a. f a b) (cond t (a ∷ filter (λ a. r a b) xs) (filter (λ a. r a b) xs)) ++ flat_map (others (a ∷ xs)) bs)
      (map (f a) (cond t (b ∷ filter (r a) bs) (filter (r a) bs)) ++ (others xs b ++ flat_map (others xs) bs))
  one_step a b xs bs true h =
      IsPermutation-cons (f a b) _ _
      (IsPermutation-trans _ _ _ (IsPermutation-append_right (others xs b) _ _ h) (to_front (others xs b) (ones a bs) (flat_map (others xs) bs)))
  one_step a b xs bs false h =
      IsPermutation-trans _ _ _ (IsPermutation-append_right (others xs b) _ _ h) (to_front (others xs b) (ones a bs) (flat_map (others xs) bs))

  one_more : (a : A) (xs : List A) (bs : List B) → IsPermutation (flat_map (others (a ∷ xs)) bs) (ones a bs ++ flat_map (others xs) bs)
  one_more a xs [] = IsPermutation-refl []
  one_more a xs (b ∷ bs) = one_step a b xs bs (r a b) (one_more a xs bs)

  -- the pairs are the same, by whichever list they are listed
  pub crossed : (xs : List A) (bs : List B) → IsPermutation (flat_map (λ a. ones a bs) xs) (flat_map (others xs) bs)
  crossed [] bs = subst (λ l. IsPermutation [] l) (sym (no_blocks bs)) (IsPermutation-refl [])
  crossed (a ∷ xs) bs =
      IsPermutation-trans _ _ _ (IsPermutation-append_right (ones a bs) _ _ (crossed xs bs)) (IsPermutation-sym _ _ (one_more a xs bs))

-- ---- filters

twice_step : {X : Type 0} (q : X → Bool) (x : X) (kept rest : List X) (b : Bool) → filter q kept ≡ rest → filter q (cond b (x ∷ kept) kept) ≡ cond (b && q x) (x ∷ rest) rest
twice_step q x kept rest true e = ap (λ l. cond (q x) (x ∷ l) l) e
twice_step q x kept rest false e = e

-- a filter of a filter is one by both tests
pub filter_twice : {X : Type 0} (p q : X → Bool) (xs : List X) → filter q (filter p xs) ≡ filter (λ x. p x && q x) xs
filter_twice p q [] = refl
filter_twice p q (x ∷ xs) = twice_step q x (filter p xs) (filter (λ y. p y && q y) xs) (p x) (filter_twice p q xs)

map_step : {X Y : Type 0} (f : X → Y) (x : X) (kept : List X) (rest : List Y) (b : Bool) → rest ≡ map f kept → cond b (f x ∷ rest) rest ≡ map f (cond b (x ∷ kept) kept)
map_step f x kept rest true e = ap (λ l. f x ∷ l) e
map_step f x kept rest false e = e

-- a filter of a map
pub filter_of_map : {X Y : Type 0} (p : Y → Bool) (f : X → Y) (xs : List X) → filter p (map f xs) ≡ map f (filter (λ x. p (f x)) xs)
filter_of_map p f [] = refl
filter_of_map p f (x ∷ xs) = map_step f x (filter (λ y. p (f y)) xs) (filter p (map f xs)) (p (f x)) (filter_of_map p f xs)

-- a filter of blocks is a filter of each
pub filter_of_blocks : {X Y : Type 0} (p : Y → Bool) (f : X → List Y) (xs : List X) → filter p (flat_map f xs) ≡ flat_map (λ x. filter p (f x)) xs
filter_of_blocks p f [] = refl
filter_of_blocks p f (x ∷ xs) = filter-append p (f x) (flat_map f xs) ∙ ap (λ l. filter p (f x) ++ l) (filter_of_blocks p f xs)

-- blocks that are the same
pub blocks_same : {X Y : Type 0} (f h : X → List Y) → ((x : X) → f x ≡ h x) → (xs : List X) → flat_map f xs ≡ flat_map h xs
blocks_same f h e [] = refl
blocks_same f h e (x ∷ xs) = ap (λ l. l ++ flat_map f xs) (e x) ∙ ap (λ l. h x ++ l) (blocks_same f h e xs)

kept_step : {X Y : Type 0} (f : X → List Y) (x : X) (kept : List X) (rest : List Y) (b : Bool) → rest ≡ flat_map f kept → cond b (f x) [] ++ rest ≡ flat_map f (cond b (x ∷ kept) kept)
kept_step f x kept rest true e = ap (λ l. f x ++ l) e
kept_step f x kept rest false e = e

-- blocks that are empty where a test fails are those of what passes it
pub blocks_kept : {X Y : Type 0} (k : X → Bool) (f : X → List Y) (xs : List X) → flat_map (λ x. cond (k x) (f x) []) xs ≡ flat_map f (filter k xs)
blocks_kept k f [] = refl
blocks_kept k f (x ∷ xs) = kept_step f x (filter k xs) (flat_map (λ y. cond (k y) (f y) []) xs) (k x) (blocks_kept k f xs)

-- a filter of the pairs of two lists is one of the pairs' test
pub crossed_kept : {A B Y : Type 0} (r : A → B → Bool) (f : A → B → Y) (t : Y → Bool) (xs : List A) (bs : List B) → filter t (flat_map (λ a. map (f a) (filter (r a) bs)) xs) ≡ flat_map (λ a. map (f a) (filter (λ b. r a b && t (f a b)) bs)) xs
crossed_kept r f t xs bs =
    filter_of_blocks t (λ a. map (f a) (filter (r a) bs)) xs
    ∙ blocks_same (λ a. filter t (map (f a) (filter (r a) bs))) (λ a. map (f a) (filter (λ b. r a b && t (f a b)) bs))
    (λ a. filter_of_map t (f a) (filter (r a) bs) ∙ ap (map (f a)) (filter_twice (r a) (λ b. t (f a b)) bs)) xs
