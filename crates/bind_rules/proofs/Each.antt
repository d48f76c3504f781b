-- What holds of each element of a list, and of a value that may be there.
use Rattle.std.proofs.Common.{◌≡◌, Bool, true, false, List, [], ◌∷◌, ◌++◌, map, Option, Some, None, refl, cond, ap, sym, ◌∙◌, append_assoc}
use Rattle.std.specs.Prelude.{◌||◌}
use Rattle.std.specs.List.{AllByRecursion as Each, flat_map, list_all, find, list_any}
use Rattle.std.proofs.lemmas.Bool.{and_parts}
use Rattle.text_rules.specs.Readings.{joined}

pub front : {X : Type 0} (P : X → Type 0) (xs ys : List X) → Each P (xs ++ ys) → Each P xs
front P [] ys h = tt
front P (x ∷ xs) ys h = (h.0, front P xs ys h.1)

pub back : {X : Type 0} (P : X → Type 0) (xs ys : List X) → Each P (xs ++ ys) → Each P ys
back P [] ys h = h
back P (x ∷ xs) ys h = back P xs ys h.1

pub both : {X : Type 0} (P : X → Type 0) (xs ys : List X) → Each P xs → Each P ys → Each P (xs ++ ys)
both P [] ys h k = k
both P (x ∷ xs) ys h k = (h.0, both P xs ys h.1 k)

pub weaker : {X : Type 0} (P Q : X → Type 0) → ((x : X) → P x → Q x) → (xs : List X) → Each P xs → Each Q xs
weaker P Q f [] h = tt
weaker P Q f (x ∷ xs) h = (f x h.0, weaker P Q f xs h.1)

pub mapped : {X Y : Type 0} (P : Y → Type 0) (f : X → Y) (xs : List X) → Each (λ x. P (f x)) xs → Each P (map f xs)
mapped P f [] h = tt
mapped P f (x ∷ xs) h = (h.0, mapped P f xs h.1)

pub unmapped : {X Y : Type 0} (P : Y → Type 0) (f : X → Y) (xs : List X) → Each P (map f xs) → Each (λ x. P (f x)) xs
unmapped P f [] h = tt
unmapped P f (x ∷ xs) h = (h.0, unmapped P f xs h.1)

-- the elements of lists one behind another
pub of_parts : {X Y : Type 0} (P : Y → Type 0) (f : X → List Y) (xs : List X) → Each (λ x. Each P (f x)) xs → Each P (flat_map f xs)
of_parts P f [] h = tt
of_parts P f (x ∷ xs) h = both P (f x) (flat_map f xs) h.0 (of_parts P f xs h.1)

pub in_parts : {X Y : Type 0} (P : Y → Type 0) (f : X → List Y) (xs : List X) → Each P (flat_map f xs) → Each (λ x. Each P (f x)) xs
in_parts P f [] h = tt
in_parts P f (x ∷ xs) h = (front P (f x) (flat_map f xs) h, in_parts P f xs (back P (f x) (flat_map f xs) h))

pub of_joined : {X Y : Type 0} (P : Y → Type 0) (f : X → List Y) (xs : List X) → Each (λ x. Each P (f x)) xs → Each P (joined (map f xs))
of_joined P f [] h = tt
of_joined P f (x ∷ xs) h = both P (f x) (joined (map f xs)) h.0 (of_joined P f xs h.1)

pub in_joined : {X Y : Type 0} (P : Y → Type 0) (f : X → List Y) (xs : List X) → Each P (joined (map f xs)) → Each (λ x. Each P (f x)) xs
in_joined P f [] h = tt
in_joined P f (x ∷ xs) h = (front P (f x) (joined (map f xs)) h, in_joined P f xs (back P (f x) (joined (map f xs)) h))

-- what follows of two facts of each element
pub by_two : {X : Type 0} (P Q R : X → Type 0) → ((x : X) → P x → Q x → R x) → (xs : List X) → Each P xs → Each Q xs → Each R xs
by_two P Q R f [] h k = tt
by_two P Q R f (x ∷ xs) h k = (f x h.0 k.0, by_two P Q R f xs h.1 k.1)

-- tests of all elements
pub passed : {X : Type 0} (p : X → Bool) (xs : List X) → list_all p xs ≡ true → Each (λ x. p x ≡ true) xs
passed p [] h = tt
passed p (x ∷ xs) h = let two = and_parts (p x) (list_all p xs) h in (two.0, passed p xs two.1)

pub all_pass : {X : Type 0} (p : X → Bool) (xs : List X) → Each (λ x. p x ≡ true) xs → list_all p xs ≡ true
all_pass p [] h = refl
all_pass p (x ∷ xs) h = rw (h.0, all_pass p xs h.1) refl

pub neither : (a b : Bool) → (a || b) ≡ false → (a ≡ false) × (b ≡ false)
neither true b h = absurd cc
neither false b h = (refl, h)

-- of a value, where it is there
abbrev pub IfThere : {X : Type 0} → (X → Type 0) → Option X → Type 0
IfThere P None = Unit {0}
IfThere P (Some x) = P x

-- a search that finds nothing
none_step : {X : Type 0} (p : X → Bool) (x : X) (rest : Option X) (b : Bool) → p x ≡ b → cond b (Some x) rest ≡ None → (p x ≡ false) × (rest ≡ None)
none_step p x rest true e h = absurd cc
none_step p x rest false e h = (e, h)

pub none_found : {X : Type 0} (p : X → Bool) (xs : List X) → find p xs ≡ None → Each (λ x. p x ≡ false) xs
none_found p [] h = tt
none_found p (x ∷ xs) h = let two = none_step p x (find p xs) (p x) refl h in (two.0, none_found p xs two.1)

-- a test that no element passes
pub none_passes : {X : Type 0} (p : X → Bool) (xs : List X) → list_any p xs ≡ false → Each (λ x. p x ≡ false) xs
none_passes p [] h = tt
none_passes p (x ∷ xs) h = let two = neither (p x) (list_any p xs) h in (two.0, none_passes p xs two.1)

-- lists one behind another
pub flat_append : {X Y : Type 0} (f : X → List Y) (xs ys : List X) → flat_map f (xs ++ ys) ≡ flat_map f xs ++ flat_map f ys
flat_append f [] ys = refl
flat_append f (x ∷ xs) ys = ap (λ t. f x ++ t) (flat_append f xs ys) ∙ sym (append_assoc (f x) (flat_map f xs) (flat_map f ys))

pub flat_twice : {X Y Z : Type 0} (f : Y → List Z) (g : X → List Y) (xs : List X) → flat_map f (flat_map g xs) ≡ flat_map (λ x. flat_map f (g x)) xs
flat_twice f g [] = refl
flat_twice f g (x ∷ xs) = flat_append f (g x) (flat_map g xs) ∙ ap (λ t. flat_map f (g x) ++ t) (flat_twice f g xs)

-- the same lists one behind another
pub flat_same : {X Y : Type 0} (f g : X → List Y) (xs : List X) → Each (λ x. f x ≡ g x) xs → flat_map f xs ≡ flat_map g xs
flat_same f g [] h = refl
flat_same f g (x ∷ xs) h = ap (λ t. t ++ flat_map f xs) h.0 ∙ ap (λ t. g x ++ t) (flat_same f g xs h.1)
