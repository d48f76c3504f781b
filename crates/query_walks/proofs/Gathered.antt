-- What is gathered from all tests, where each adds its own.
use Rattle.std.proofs.Common.{◌≡◌, ℤ, List, [], ◌∷◌, ◌++◌, Option, Some, None, refl, sym, ap, ◌∙◌, append_assoc, append-nil}
use Rattle.std.specs.List.{fold, flat_map}
use Rattle.bind_rules.specs.Binding.{first_or}
use Rattle.bind_rules.specs.Forms.{first_of}
use Rattle.bind_rules.specs.Tops.{Found}
use Rattle.query_walks.specs.Walks.{Founds}
use Rattle.query_walks.specs.Behind.{first_behind}

-- each test puts some behind the others, by what stays as it is
pub appended_by : {S A C : Type 0} (after : S → Found → S) (shown : S → List A) (told : S → C) (adds : C → Found → List A) → ((s : S) (f : Found) → shown (after s f) ≡ shown s ++ adds (told s) f) → ((s : S) (f : Found) → told (after s f) ≡ told s) → (s : S) (fs : Founds) → shown (fold after s fs) ≡ shown s ++ flat_map (adds (told s)) fs
appended_by after shown told adds h k s [] = sym (append-nil (shown s))
appended_by after shown told adds h k s (f ∷ fs) =
    appended_by after shown told adds h k (after s f) fs
    ∙ ap (λ c. shown (after s f) ++ flat_map (adds c) fs) (k s f)
    ∙ ap (λ xs. xs ++ flat_map (adds (told s)) fs) (h s f)
    ∙ append_assoc (shown s) (adds (told s) f) (flat_map (adds (told s)) fs)

-- each test puts some behind the others
pub appended : {S A : Type 0} (after : S → Found → S) (shown : S → List A) (adds : Found → List A) → ((s : S) (f : Found) → shown (after s f) ≡ shown s ++ adds f) → (s : S) (fs : Founds) → shown (fold after s fs) ≡ shown s ++ flat_map adds fs
appended after shown adds h = appended_by {C = Unit {0}} after shown (λ s. tt) (λ c. adds) h (λ s f. refl)

behind_none : {A : Type 0} (x : Option A) → first_behind x [] ≡ x
behind_none None = refl
behind_none (Some x) = refl

behind_two : {A : Type 0} (x : Option A) (xs ys : List A) → first_behind (first_behind x xs) ys ≡ first_behind x (xs ++ ys)
behind_two (Some x) xs ys = refl
behind_two None [] ys = refl
behind_two None (x ∷ xs) ys = refl

-- the first that a test adds is kept
pub firsts : {S A : Type 0} (after : S → Found → S) (shown : S → Option A) (adds : Found → List A) → ((s : S) (f : Found) → shown (after s f) ≡ first_behind (shown s) (adds f)) → (s : S) (fs : Founds) → shown (fold after s fs) ≡ first_behind (shown s) (flat_map adds fs)
firsts after shown adds h s [] = sym (behind_none (shown s))
firsts after shown adds h s (f ∷ fs) =
    firsts after shown adds h (after s f) fs ∙ ap (λ x. first_behind x (flat_map adds fs)) (h s f) ∙ behind_two (shown s) (adds f) (flat_map adds fs)

pub first_or_some : (d z : ℤ) (zs : List ℤ) → first_of zs ≡ Some z → first_or d zs ≡ z
first_or_some d z [] h = absurd (cc h)
first_or_some d z (y ∷ ys) h = cc h

pub first_or_none : (d : ℤ) (zs : List ℤ) → first_of zs ≡ None → first_or d zs ≡ d
first_or_none d [] h = refl
first_or_none d (y ∷ ys) h = absurd (cc h)
