-- The merge of two ascending lists.
use Rattle.std.specs.Prelude.{ℕ, Bool, true, false, List, [], ◌∷◌, nat_lt, if◌then◌else◌}

-- the next element is the first list's: it has one, and the other list has none or begins with a greater one
abbrev pub takes_first : List ℕ → List ℕ → Bool
takes_first [] ys = false
takes_first (x ∷ xs) [] = true
takes_first (x ∷ xs) (y ∷ ys) = nat_lt x y

-- the merge of the list x ∷ xs with another; `on` merges xs
abbrev pub merged_from : ℕ → List ℕ → (List ℕ → List ℕ) → List ℕ → List ℕ
merged_from x xs on [] = x ∷ xs
merged_from x xs on (y ∷ ys) = if nat_lt x y then x ∷ on (y ∷ ys) else y ∷ merged_from x xs on ys

-- the elements of both lists: of their two first elements, the lesser is next
abbrev pub merged : List ℕ → List ℕ → List ℕ
merged [] ys = ys
merged (x ∷ xs) ys = merged_from x xs (merged xs) ys
