-- Several parts, each behind the same text, and lists of lists: those from a place on.
use Rattle.std.proofs.Common.{◌≡◌, ℕ, ◌+◌, ◌<◌, List, ◌++◌, map, length, drop, get_or, sym, ap, subst, drop-cons, add-one}
use Rattle.std.specs.List.{flat_map}
use Rattle.sql_rules.specs.PrintedExprs.{Bytes, behind_each}

-- the lists of the parts from a place on are that of the part there, and those of the parts behind it
pub next_listed : {A B : Type 0} (text : A → List B) (xs : List A) (i : ℕ) (d : A) → i < length xs
    → flat_map text (drop i xs) ≡ text (get_or xs i d) ++ flat_map text (drop (i + 1) xs)
next_listed text xs i d low = rw add-one (ap (λ ys. flat_map text ys) (drop-cons xs i d low))

-- the parts from a place on are the one there, and those behind it
pub next_at : {A : Type 0} (lead : Bytes) (text : A → Bytes) (xs : List A) (i : ℕ) (d : A) → i < length xs
    → behind_each lead (map text (drop i xs)) ≡ (lead ++ text (get_or xs i d)) ++ behind_each lead (map text (drop (i + 1) xs))
next_at lead text xs i d low = rw add-one (ap (λ ys. behind_each lead (map text ys)) (drop-cons xs i d low))

-- the same, of a part that is the one there
pub next_part : {A : Type 0} (lead : Bytes) (text : A → Bytes) (xs : List A) (i : ℕ) (x : A) → i < length xs → x ≡ get_or xs i x
    → behind_each lead (map text (drop i xs)) ≡ (lead ++ text x) ++ behind_each lead (map text (drop (i + 1) xs))
next_part lead text xs i x low is =
    subst (λ y. behind_each lead (map text (drop i xs)) ≡ (lead ++ text y) ++ behind_each lead (map text (drop (i + 1) xs))) (sym is) (next_at lead text xs i x low)
