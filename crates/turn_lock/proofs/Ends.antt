-- Once all other seats have ended in seat 0: each entry that it has seen is its own, or is kept; and no entry is added by others.
use Rattle.std.proofs.Common.{◌≡◌, ℕ, ◌==◌, suc, zero, Bool, true, cond, List, [], ◌∷◌, ◌++◌, length}
use Rattle.std.proofs.Common.{◌⊎◌, inl, inr, ⊎_elim, refl, sym, ap, ◌∙◌, subst, arith, eq-eqb, Contains, filter}
use Rattle.std.proofs.Common.{append-nil, length-append}
use Rattle.std.proofs.lemmas.Bool.{cases_Bool, cases_lt}
use Rattle.turn_lock.specs.Pasts.{of_seat}
use Rattle.turn_lock.specs.Seats.{Knows, Seated, having_seen}
use Rattle.turn_lock.specs.Ends.{AllHaveEnded, EntriesAreKept, IsKeptOf, NothingIsAdded}
use Rattle.turn_lock.proofs.PastLemmas.{no_length, of_seat-append}
use Rattle.turn_lock.proofs.Splitting.{no_member}

-- what is in a list and passes is in the filter
pub in_filter : {E : Type 0} (p : E → Bool) (xs : List E) (x : E) → Contains xs x → p x ≡ true → Contains (filter p xs) x
in_filter p [] x h t = absurd (no_member x h)
in_filter {E} p (y ∷ xs) x (zero, low, is) t =
    subst (λ (b : Bool). Contains (cond b (y ∷ filter p xs) (filter p xs)) x) (sym (ap p is ∙ t)) (0, omega arith, is)
in_filter {E} p (y ∷ xs) x (suc k, low, is) t =
    let rest : Contains (filter p xs) x = in_filter p xs x (k, omega (arith, low), is) t in
    ⊎_elim
    (λ yes. subst (λ (b : Bool). Contains (cond b (y ∷ filter p xs) (filter p xs)) x) (sym yes) (let l = rest.1 in (suc rest.0, omega (arith, l), rest.2)))
    (λ no_. subst (λ (b : Bool). Contains (cond b (y ∷ filter p xs) (filter p xs)) x) (sym no_) rest)
    (cases_Bool (p y))

module _ {R E : Type 0} (seat_of : E → ℕ) where
  own_number : (seat : Seated R E) (entry : E) → Contains seat.seen entry → Contains (of_seat seat_of (seat_of entry) seat.seen) entry
  own_number seat entry there = in_filter (λ e. seat_of e == seat_of entry) seat.seen entry there (eq-eqb (seat_of entry) (seat_of entry) refl)

  kept_by : (seat : Seated R E) (entry : E) (n : ℕ) → seat_of entry ≡ n → seat.number ≡ 0 → Knows seat_of seat → AllHaveEnded seat
      → Contains seat.seen entry → Contains seat.mine entry ⊎ IsKeptOf seat_of seat entry
  kept_by seat entry zero is zero_is knows all there =
      inl (subst (λ (l : List E). Contains l entry) knows.mine (subst (λ (k : ℕ). Contains (of_seat seat_of k seat.seen) entry) (is ∙ sym zero_is) (own_number seat entry there)))
  kept_by seat entry (suc n) is zero_is knows all there =
      let own : Contains (of_seat seat_of (suc n) seat.seen) entry = subst (λ (k : ℕ). Contains (of_seat seat_of k seat.seen) entry) is (own_number seat entry there) in
      ⊎_elim
      (λ low. let kept = all.each (suc n) (omega arith) low in
      inr (record {
        entries = kept.0;
        ended = subst (λ (k : ℕ). Contains seat.ended (k, kept.0)) (sym is) kept.1;
        there = subst (λ (l : List E). Contains l entry) (knows.ended (suc n) kept.0 kept.1).1 own;
      }))
      (λ high. absurd (no_member entry (subst (λ (l : List E). Contains l entry) (knows.above zero_is (suc n) high) own)))
      (cases_lt (suc n) seat.made)

pub entries_are_kept : (R : Type 0) {E : Type 0} (seat_of : E → ℕ) → EntriesAreKept R seat_of
entries_are_kept R seat_of seat entry zero_is knows all there = kept_by seat_of seat entry (seat_of entry) refl zero_is knows all there

-- what is appended without effect is empty
nothing_after : {E : Type 0} (xs ys : List E) → xs ++ ys ≡ xs → ys ≡ []
nothing_after xs ys e = no_length ys (let l = ap length e in omega (arith, l, length-append xs ys))

module _ {E : Type 0} (seat_of : E → ℕ) where
  -- a history that has of each number what was seen of it is what was seen
  no_more : (seen more : List E) → ((n : ℕ) → of_seat seat_of n (seen ++ more) ≡ of_seat seat_of n seen) → more ≡ []
  no_more seen [] same = refl
  no_more seen (e ∷ rest) same =
      let n = seat_of e in
      let others : of_seat seat_of n (e ∷ rest) ≡ [] = nothing_after (of_seat seat_of n seen) (of_seat seat_of n (e ∷ rest))
      (sym (of_seat-append seat_of n seen (e ∷ rest)) ∙ same n) in
      absurd (no_member e (subst (λ (l : List E). Contains l e) others
      (in_filter (λ x. seat_of x == n) (e ∷ rest) e (0, omega arith, refl) (eq-eqb n n refl))))

module _ {R E : Type 0} (seat_of : E → ℕ) where
  -- of each number a later history has what was seen of it
  same_of : (seat : Seated R E) (past : List E) (n : ℕ) → seat.number ≡ 0 → Knows seat_of seat → AllHaveEnded seat
      → Knows seat_of (having_seen past seat) → of_seat seat_of n past ≡ of_seat seat_of n seat.seen
  same_of seat past zero zero_is knows all later =
      subst (λ (k : ℕ). of_seat seat_of k past ≡ of_seat seat_of k seat.seen) zero_is (later.mine ∙ sym knows.mine)
  same_of seat past (suc n) zero_is knows all later = ⊎_elim
      (λ low. let kept = all.each (suc n) (omega arith) low in
      (later.ended (suc n) kept.0 kept.1).1 ∙ sym (knows.ended (suc n) kept.0 kept.1).1)
      (λ high. later.above zero_is (suc n) high ∙ sym (knows.above zero_is (suc n) high))
      (cases_lt (suc n) seat.made)

pub nothing_is_added : (R : Type 0) {E : Type 0} (seat_of : E → ℕ) → NothingIsAdded R seat_of
nothing_is_added R seat_of seat past zero_is knows all prefix later =
    let none : prefix.0 ≡ [] = no_more seat_of seat.seen prefix.0 (λ n.
    ap (of_seat seat_of n) prefix.1 ∙ same_of seat_of seat past n zero_is knows all later) in
    sym prefix.1 ∙ (ap (λ l. seat.seen ++ l) none ∙ append-nil seat.seen)
