-- The least place of a key behind one of the same id, from key to key.
use Rattle.std.proofs.Common.{sym, subst, ⊎_elim, ◌∙◌, refl, ◌≡◌, ◌≢◌, ℕ, ◌+◌, ◌<◌, ◌≤◌, min, arith, List, length}
use Rattle.std.proofs.Common.{get_or, Option, None, Some, max}
use Rattle.std.proofs.Math.Nat.{eq-or-lt_of_le}
use Rattle.std.proofs.lemmas.Bool.{cases_eq, cases_lt}
use Rattle.id_order.specs.Keys.{IsFollowed, IsLeast, IsLeastSecond, least_of}
use Rattle.sky_row.specs.Keys.{id_bits, place_in}

at_most : (k j : ℕ) → k + 1 < j + 1 + 1 → k ≤ j
at_most k j low = omega arith

own_place : (keys : List ℕ) (j k : ℕ) → k ≡ j → place_in (get_or keys (j + 1) 0) ≤ place_in (get_or keys (k + 1) 0)
own_place keys j k same =
    subst (λ n. place_in (get_or keys (j + 1) 0) ≤ place_in (get_or keys (n + 1) 0)) (sym same) (omega arith)

lesser_left : (other place n : ℕ) → other ≤ n → min other place ≤ n
lesser_left other place n low = omega arith

lesser_right : (other place n : ℕ) → place ≤ n → min other place ≤ n
lesser_right other place n low = omega arith

lesser_is_left : (other place : ℕ) → other ≤ place → min other place ≡ other
lesser_is_left other place low = omega arith

lesser_is_right : (other place : ℕ) → place < other → min other place ≡ place
lesser_is_right other place low = omega arith

-- the key at j + 1 has another id than the one before it
without_more : (keys : List ℕ) (j : ℕ) (least : Option ℕ) → (IsFollowed keys j → ⊥) → IsLeast keys (j + 1) least
    → IsLeast keys (j + 1 + 1) least
without_more keys j None other none = λ k low followed. ⊎_elim
    (λ same. other (subst (IsFollowed keys) same followed))
    (λ before. none k (omega arith) followed)
    (eq-or-lt_of_le (at_most k j low))
without_more keys j (Some place) other first = record {
  at = first.at;
  within = omega (arith, first.within);
  followed = first.followed;
  is = first.is;
  least = λ k low followed. ⊎_elim
      (λ same. absurd (other (subst (IsFollowed keys) same followed)))
      (λ before. first.least k (omega arith) followed)
      (eq-or-lt_of_le (at_most k j low));
}

-- the key at j + 1 has the id of the one before it
with_more : (keys : List ℕ) (j : ℕ) (least : Option ℕ) → IsFollowed keys j → IsLeast keys (j + 1) least
    → IsLeastSecond keys (j + 1 + 1) (least_of least (place_in (get_or keys (j + 1) 0)))
with_more keys j None follows none = record {
  at = j;
  within = omega arith;
  followed = follows;
  is = refl;
  least = λ k low followed. ⊎_elim
      (λ same. own_place keys j k same)
      (λ before. absurd (none k (omega arith) followed))
      (eq-or-lt_of_le (at_most k j low));
}
with_more keys j (Some other) follows first =
    let place = place_in (get_or keys (j + 1) 0) in
    let bound = λ (k : ℕ) (low : k + 1 < j + 1 + 1) (followed : IsFollowed keys k). ⊎_elim
    (λ same. lesser_right other place _ (own_place keys j k same))
    (λ before. lesser_left other place _ (first.least k (omega arith) followed))
    (eq-or-lt_of_le (at_most k j low)) in
    ⊎_elim
    (λ new. record {
      at = j;
      within = omega arith;
      followed = follows;
      is = lesser_is_right other place new;
      least = bound;
    })
    (λ old. record {
      at = first.at;
      within = omega (arith, first.within);
      followed = first.followed;
      is = lesser_is_left other place old ∙ first.is;
      least = bound;
    })
    (cases_lt place other)

-- what the step from the key at j to the one at i tells
abbrev Told : List ℕ → ℕ → ℕ → Option ℕ → Option ℕ → Type 0
Told keys j i least new = (id_bits (get_or keys j 0) ≢ id_bits (get_or keys i 0) → new ≡ least)
    × (id_bits (get_or keys j 0) ≡ id_bits (get_or keys i 0) → new ≡ Some (least_of least (place_in (get_or keys i 0))))

step_at : (keys : List ℕ) (j : ℕ) (least new : Option ℕ) → Told keys j (j + 1) least new → IsLeast keys (j + 1) least
    → IsLeast keys (j + 1 + 1) new
step_at keys j least new told before = ⊎_elim
    (λ follows. subst (IsLeast keys (j + 1 + 1)) (sym (told.1 follows)) (with_more keys j least follows before))
    (λ apart. subst (IsLeast keys (j + 1 + 1)) (sym (told.0 apart)) (without_more keys j least apart before))
    (cases_eq (id_bits (get_or keys j 0)) (id_bits (get_or keys (j + 1) 0)))

-- the least place so far, with the next key
pub least_step : (keys : List ℕ) (j i : ℕ) (least new : Option ℕ) → j + 1 ≡ i
    → (id_bits (get_or keys j 0) ≢ id_bits (get_or keys i 0) → new ≡ least)
    → (id_bits (get_or keys j 0) ≡ id_bits (get_or keys i 0) → new ≡ Some (least_of least (place_in (get_or keys i 0))))
    → IsLeast keys i least → IsLeast keys (i + 1) new
least_step keys j i least new e other same =
    subst (λ i. Told keys j i least new → IsLeast keys i least → IsLeast keys (i + 1) new) e
    (step_at keys j least new) (other, same)

-- all keys have been seen
pub least_of_all : (keys : List ℕ) (i : ℕ) (least : Option ℕ) → length keys ≤ i → i ≤ max 1 (length keys)
    → IsLeast keys i least → IsLeast keys (length keys) least
least_of_all keys i None all within none = λ k low followed. none k (omega arith) followed
least_of_all keys i (Some place) all within first = record {
  at = first.at;
  within = omega (arith, first.within);
  followed = first.followed;
  is = first.is;
  least = λ k low followed. first.least k (omega arith) followed;
}
