-- Whether all lost queries run and are of a take, one query at a time.
use Rattle.std.proofs.Common.{◌≡◌, ℕ, ◌+◌, ◌<◌, ◌≤◌, List, length, get_or, drop, Bool, true, false, ◌&&◌, sym, ◌∙◌, ap, add-one, drop-cons, lt-ltb, le-ltb}
use Rattle.std.specs.List.{list_all}
use Rattle.std.proofs.lemmas.List.{drop_all}
use Rattle.scan_rules.specs.Numbers.{has}
use Rattle.scan_core.specs.declared.slot.Slot.{Slot}
use Rattle.scan_core.specs.Replays.{runs_among}
use Rattle.scan_core.specs.Slots.{runs}

-- a query with a slot
pub among_is : (slots : List Slot) (queries : List ℕ) (d : Slot) (q : ℕ) (a b : Bool) → q < 256 → a ≡ runs (get_or slots q d) → b ≡ has queries q → (a && b) ≡ runs_among slots queries d q
among_is slots queries d q a b low ea eb =
    ap (λ (x : Bool). x && b) ea ∙ (ap (λ (x : Bool). runs (get_or slots q d) && x) eb ∙ sym (ap (λ (x : Bool). x && (runs (get_or slots q d) && has queries q)) (lt-ltb q 256 low)))

-- a number without a slot
pub none_among : (slots : List Slot) (queries : List ℕ) (d : Slot) (q : ℕ) → 256 ≤ q → false ≡ runs_among slots queries d q
none_among slots queries d q high = sym (ap (λ (x : Bool). x && (runs (get_or slots q d) && has queries q)) (le-ltb q 256 high))

-- the next query and those after it
next_of_all : (p : ℕ → Bool) (xs : List ℕ) (i : ℕ) → i < length xs → list_all p (drop i xs) ≡ (p (get_or xs i 0) && list_all p (drop (i + 1) xs))
next_of_all p xs i low = rw add-one (ap (λ (l : List ℕ). list_all p l) (drop-cons xs i 0 low))

-- after a query that passes
pub all_more : (p : ℕ → Bool) (xs : List ℕ) (i : ℕ) (b : Bool) → i < length xs → b ≡ p (get_or xs i 0) → b ≡ true → list_all p (drop i xs) ≡ list_all p xs → list_all p (drop (i + 1) xs) ≡ list_all p xs
all_more p xs i b low e t so = ap (λ (x : Bool). x && list_all p (drop (i + 1) xs)) (sym t ∙ e) ∙ (sym (next_of_all p xs i low) ∙ so)

-- at a query that does not
pub all_stop : (p : ℕ → Bool) (xs : List ℕ) (i : ℕ) (b : Bool) → i < length xs → b ≡ p (get_or xs i 0) → b ≡ false → list_all p (drop i xs) ≡ list_all p xs → false ≡ list_all p xs
all_stop p xs i b low e f so = ap (λ (x : Bool). x && list_all p (drop (i + 1) xs)) (sym f ∙ e) ∙ (sym (next_of_all p xs i low) ∙ so)

-- after the last one
pub all_done : (p : ℕ → Bool) (xs : List ℕ) (i : ℕ) → length xs ≤ i → list_all p (drop i xs) ≡ list_all p xs → true ≡ list_all p xs
all_done p xs i high so = sym (ap (λ (l : List ℕ). list_all p l) (drop_all i xs high)) ∙ so
