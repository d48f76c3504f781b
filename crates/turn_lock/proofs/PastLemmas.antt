-- Lemmas on lists of entries: which of them a seat made, and lists that begin one another.
use Rattle.std.proofs.Common.{◌≡◌, ◌≢◌, ℕ, ◌<◌, ◌≤◌, suc, Bool, true, false, cond, List, [], ◌∷◌, ◌++◌, length}
use Rattle.std.proofs.Common.{◌⊎◌, inl, inr, ⊎_elim, refl, sym, ap, ◌∙◌, subst, arith, eq-eqb, ne_eqb}
use Rattle.std.proofs.Common.{append-nil, length-append, nat_lt, slice_index_or, drop, All}
use Rattle.std.proofs.lemmas.Bool.{cases_lt}
use Rattle.std.proofs.lemmas.Bool.Decides.{nat_tests}
use Rattle.std.proofs.lemmas.List.Elements.{filter-append}
use Rattle.std.proofs.Math.Seq.{drop-append_seam}
use mathlib.Core.List.{IsPrefix}
use Rattle.turn_lock.specs.Pasts.{of_seat, fresh, longer}

test_lt : (m n : ℕ) → ((nat_lt m n ≡ true) × (m < n)) ⊎ ((nat_lt m n ≡ false) × (n ≤ m))
test_lt m n = elim (cases_lt m n) [ inl h ↦ inl (grind (arith, nat_tests), h) | inr h ↦ inr (grind (arith, nat_tests), h) ]

module _ {E : Type 0} where
  not_nil : (x : E) (xs : List E) → ◌≡◌ {A = List E} (x ∷ xs) [] → ⊥
  not_nil x xs e = cc

  same_head : {x y : E} {xs ys : List E} → ◌≡◌ {A = List E} (x ∷ xs) (y ∷ ys) → x ≡ y
  same_head {x} e = ap (λ (l : List E). slice_index_or l 0 x) e

  same_tail : {x y : E} {xs ys : List E} → ◌≡◌ {A = List E} (x ∷ xs) (y ∷ ys) → xs ≡ ys
  same_tail e = ap (λ (l : List E). drop 1 l) e

  nil_left : (xs ys : List E) → xs ++ ys ≡ [] → xs ≡ []
  nil_left [] ys e = refl
  nil_left (x ∷ xs) ys e = absurd (not_nil x (xs ++ ys) e)

  pub no_length : (xs : List E) → length xs ≤ 0 → xs ≡ []
  no_length [] h = refl
  no_length (x ∷ xs) h = absurd (omega (arith, h))

  -- what follows a list is what was put behind it
  pub fresh-append : (seen more : List E) → fresh seen (seen ++ more) ≡ more
  fresh-append seen more = drop-append_seam seen more

  pub begins_itself : (xs : List E) → IsPrefix xs xs
  begins_itself xs = ([], append-nil xs)

  -- of two beginnings of one list the shorter begins the longer
  shorter : (xs ys zs : List E) → IsPrefix xs zs → IsPrefix ys zs → length xs ≤ length ys → IsPrefix xs ys
  shorter [] ys zs p q h = (ys, refl)
  shorter (x ∷ xs) [] zs p q h = absurd (omega (arith, h))
  shorter (x ∷ xs) (y ∷ ys) [] p q h = absurd (not_nil x (xs ++ p.0) p.1)
  shorter (x ∷ xs) (y ∷ ys) (z ∷ zs) p q h =
      let r = shorter xs ys zs (p.0, same_tail p.1) (q.0, same_tail q.1) (omega (arith, h)) in
      (r.0, λ k. (same_head p.1 ∙ sym (same_head q.1)) k ∷ r.1 k)

  -- two beginnings of one list begin the longer of them, which begins that list
  pub longest : (xs ys zs : List E) → IsPrefix xs zs → IsPrefix ys zs
      → IsPrefix xs (longer xs ys) × IsPrefix ys (longer xs ys) × IsPrefix (longer xs ys) zs
  longest xs ys zs p q =
      let Begins : List E → Type 0 = λ l. IsPrefix xs l × IsPrefix ys l × IsPrefix l zs in
      ⊎_elim
      (λ h. subst (λ (t : Bool). Begins (cond t ys xs)) (sym h.0) (
        shorter xs ys zs p q (let l = h.1 in omega
            (arith, l)),
        begins_itself ys,
        q,
      ))
      (λ h. subst (λ (t : Bool). Begins (cond t ys xs)) (sym h.0) (begins_itself xs, shorter ys xs zs q p h.1, p))
      (test_lt (length xs) (length ys))

module _ {E : Type 0} (seat_of : E → ℕ) where
  abbrev Carry : ℕ → List E → Type 0
  Carry n es = All (λ e. seat_of e ≡ n) es

  first_carries : (n : ℕ) (e : E) (es : List E) → Carry n (e ∷ es) → seat_of e ≡ n
  first_carries n e es own = own 0 e (omega arith)

  rest_carry : (n : ℕ) (e : E) (es : List E) → Carry n (e ∷ es) → Carry n es
  rest_carry n e es own k d h = own (suc k) d (omega (arith, h))

  -- of entries that all carry a number, all are that seat's
  own_entries : (n : ℕ) (es : List E) → Carry n es → of_seat seat_of n es ≡ es
  own_entries n [] own = refl
  own_entries n (e ∷ es) own =
      let rest = of_seat seat_of n es in
      subst (λ (b : Bool). cond b (e ∷ rest) rest ≡ e ∷ es) (sym (eq-eqb (seat_of e) n (first_carries n e es own)))
      (ap (λ xs. e ∷ xs) (own_entries n es (rest_carry n e es own)))

  -- and none is another seat's
  pub foreign_entries : (n m : ℕ) (es : List E) → n ≢ m → Carry m es → of_seat seat_of n es ≡ []
  foreign_entries n m [] ne own = refl
  foreign_entries n m (e ∷ es) ne own =
      let rest = of_seat seat_of n es in
      subst (λ (b : Bool). cond b (e ∷ rest) rest ≡ []) (sym (ne_eqb (seat_of e) n (λ h. ne (sym h ∙ first_carries m e es own))))
      (foreign_entries n m es ne (rest_carry m e es own))

  pub of_seat-append : (n : ℕ) (xs ys : List E)
      → of_seat seat_of n (xs ++ ys) ≡ of_seat seat_of n xs ++ of_seat seat_of n ys
  of_seat-append n xs ys = filter-append _ xs ys

  -- what a seat has made grows by the entries that carry its number
  pub own_grows : (n : ℕ) (now es mine : List E) → Carry n es → of_seat seat_of n now ≡ mine
      → of_seat seat_of n (now ++ es) ≡ mine ++ es
  own_grows n now es mine own e = of_seat-append n now es ∙
      (ap (λ xs. xs ++ of_seat seat_of n es) e ∙ ap (λ xs. mine ++ xs) (own_entries n es own))

  -- and of any other seat the past has what it had
  pub others_stay : (n m : ℕ) (now es : List E) → n ≢ m → Carry m es
      → of_seat seat_of n (now ++ es) ≡ of_seat seat_of n now
  others_stay n m now es ne own = of_seat-append n now es ∙
      (ap (λ xs. of_seat seat_of n now ++ xs) (foreign_entries n m es ne own) ∙ append-nil _)

  -- where a list has none of a seat's entries, a beginning of it has none
  pub none_before : (n : ℕ) (xs now : List E) → IsPrefix xs now → of_seat seat_of n now ≡ []
      → of_seat seat_of n xs ≡ []
  none_before n xs now p e = nil_left (of_seat seat_of n xs) (of_seat seat_of n p.0)
      (sym (of_seat-append n xs p.0) ∙ (ap (of_seat seat_of n) p.1 ∙ e))

  nothing_between : (m x y : List E) → (m ++ x) ++ y ≡ m → x ≡ []
  nothing_between m x y e = no_length x (let l = ap length e in omega (arith, l, length-append (m ++ x) y, length-append m x))

  -- a list between two that have the same entries of a seat has these too
  pub same_between : (xs ys zs : List E) → IsPrefix xs ys → IsPrefix ys zs → (n : ℕ) (m : List E)
      → of_seat seat_of n xs ≡ m → of_seat seat_of n zs ≡ m → of_seat seat_of n ys ≡ m
  same_between xs ys zs p q n m e f =
      let x = of_seat seat_of n p.0 in let y = of_seat seat_of n q.0 in
      let u : of_seat seat_of n ys ≡ m ++ x = ap (of_seat seat_of n) (sym p.1) ∙ (of_seat-append n xs p.0 ∙ ap (λ l. l ++ x) e) in
      let v : (m ++ x) ++ y ≡ m = ap (λ l. l ++ y) (sym u) ∙ (sym (of_seat-append n ys q.0) ∙ (ap (of_seat seat_of n) q.1 ∙ f)) in
      u ∙ (ap (λ l. m ++ l) (nothing_between m x y v) ∙ append-nil m)
