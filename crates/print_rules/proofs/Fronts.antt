-- Bytes that pass a test at the front of a text, and what stops them.
use Rattle.std.proofs.Common.{◌≡◌, refl, ap, ℕ, arith, Bool, true, false, not, ◌&&◌, List, [], ◌∷◌, ◌++◌, length, take, drop}
use Rattle.std.specs.List.{list_all, prefix_len, take_while}

-- the first byte does not pass, or there is none
abbrev pub stops : (ℕ → Bool) → List ℕ → Bool
stops p [] = true
stops p (b ∷ bs) = not (p b)

-- the two halves of a joint test
pub both : (a b : Bool) → (a && b) ≡ true → (a ≡ true) × (b ≡ true)
both true b e = (refl, e)
both false b e = absurd cc

-- a test that is not met
pub unmet : (a : Bool) → not a ≡ true → a ≡ false
unmet true e = absurd cc
unmet false e = refl

-- where the first byte does not pass, none do
none_at_front : (p : ℕ → Bool) (r : List ℕ) → stops p r ≡ true → prefix_len p r ≡ 0
none_at_front p [] stop = refl
none_at_front p (b ∷ bs) stop = rw (unmet (p b) stop) refl

-- where all bytes of a part pass and what follows stops them, so many are at the front
pub all_at_front : (p : ℕ → Bool) (w r : List ℕ) → list_all p w ≡ true → stops p r ≡ true → prefix_len p (w ++ r) ≡ length w
all_at_front p [] r all stop = none_at_front p r stop
all_at_front p (b ∷ bs) r all stop =
    let each = both (p b) (list_all p bs) all in
    rw (each.0, all_at_front p bs r each.1 stop) (omega arith)

-- the front of two parts
pub taken : (w r : List ℕ) → take (length w) (w ++ r) ≡ w
taken [] r = refl
taken (b ∷ bs) r = ap (λ t. b ∷ t) (taken bs r)

-- what is behind the front
pub dropped : (w r : List ℕ) → drop (length w) (w ++ r) ≡ r
dropped [] r = refl
dropped (b ∷ bs) r = dropped bs r

-- the bytes at the front that pass are the part
pub while_at_front : (p : ℕ → Bool) (w r : List ℕ) → list_all p w ≡ true → stops p r ≡ true → take_while p (w ++ r) ≡ w
while_at_front p w r all stop = rw (all_at_front p w r all stop) (taken w r)
