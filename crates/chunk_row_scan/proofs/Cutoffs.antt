-- What is none of the first n rows stays none of them, and so does each row that comes after it.
use Rattle.std.proofs.Common.{◌≡◌, refl, sym, ap, subst, ℕ, ◌≤◌, arith, ℤ, neg_ℤ, int_lt, Bool, true, false, not, List, [], ◌∷◌, ◌++◌, count_by, Option, Some, None, Ordering, Equal, Greater, is_lt, int_cmp, IsPermutation}
use Rattle.std.specs.Cmp.{IsTotalOrder}
use Rattle.std.specs.List.{AllByRecursion as Each}
use Rattle.std.specs.Ordering.{ordering_then}
use Rattle.std.proofs.lemmas.Cmp.{tied_itself}
use Rattle.std.proofs.lemmas.Int.{ints}
use Rattle.std.proofs.lemmas.List.{append-nil, length-append}
use Rattle.std.proofs.lemmas.List.Elements.{All-from_recursion, recursion_from_All}
use Rattle.std.proofs.lemmas.List.Sorted.{IsPermutation-middle, length_permutation}
use Rattle.answer_rules.specs.declared.row.OutRow.{OutRow}
use Rattle.answer_rules.specs.Keeps.{IsLate, KeepsFirst, is_up_to}
use Rattle.answer_rules.specs.Pieces.{PieceView, OfRows, OfGroups}
use Rattle.answer_rules.specs.Ranks.{row_order}
use Rattle.answer_rules.proofs.KeptTwice.{count_up}
use Rattle.answer_rules.proofs.Orders.{count-append, count-no, count-permutation, count-yes, not_below_on}
use Rattle.answer_rules.proofs.Totals.{row_total}
use Rattle.partial_rows.specs.declared.rank.Rank.{Rank}
use Rattle.partial_merge.specs.Joining.{IsNoneOfFirst, TakesRow}
use Rattle.partial_rows.specs.Multisets.{out_row}
use Rattle.chunk_row_scan.specs.Computed.{rank_by}
use Rattle.chunk_row_scan.specs.Cutoffs.{IsCutoff, cutoff_after, is_beyond}

-- ---- in any total order

pub not_true : (b : Bool) → not b ≡ true → b ≡ false
not_true false e = refl
not_true true e = sym e

-- x does not come after itself
up_to_itself : {X : Type 0} (cmp : X → X → Ordering) → IsTotalOrder cmp → (x : X) → is_up_to cmp x x ≡ true
up_to_itself cmp o x = ap (λ c. not (is_lt c)) (tied_itself o x)

-- what does not come after x does not come after r, if x does not
up_to_more : {X : Type 0} (cmp : X → X → Ordering) → IsTotalOrder cmp → (r x m : X) → is_up_to cmp r x ≡ true
    → is_up_to cmp x m ≡ true → is_up_to cmp r m ≡ true
up_to_more cmp o r x m h k = ap not (not_below_on o m x r (not_true (is_lt (cmp x m)) k) (not_true (is_lt (cmp r x)) h))

-- what comes after one that is late is late
late_after : {X : Type 0} (cmp : X → X → Ordering) → IsTotalOrder cmp → (limit : Option ℕ) (kept : List X) (r x : X)
    → is_up_to cmp r x ≡ true → IsLate cmp limit kept x → IsLate cmp limit kept r
late_after cmp o None kept r x h k = k
late_after cmp o (Some n) kept r x h k = omega (arith, k, count_up (is_up_to cmp x) (is_up_to cmp r) (λ m. up_to_more cmp o r x m h) kept)

-- a test that x passes is passed by the only one that is left out in place of it
same_test : {X : Type 0} (p : X → Bool) (kept : List X) (r x : X) → IsPermutation (kept ++ r ∷ []) (x ∷ kept)
    → p r ≡ true → (b : Bool) → p x ≡ b → b ≡ true
same_test p kept r x h k true e = refl
same_test p kept r x h k false e =
    absurd (omega (arith, count-append p kept (r ∷ []), count-yes p r [] k, count-no p x kept e, count-permutation p (kept ++ r ∷ []) (x ∷ kept) h))

one_left_out : {X : Type 0} (cmp : X → X → Ordering) → IsTotalOrder cmp
    → (limit : Option ℕ) (kept left_out : List X) (r : X) → IsPermutation (kept ++ r ∷ []) (left_out ++ kept)
    → Each (IsLate cmp limit kept) left_out → IsLate cmp limit kept r
one_left_out cmp o limit kept [] r h k =
    absurd (omega (arith, length_permutation _ _ h, length-append kept (r ∷ [])))
one_left_out cmp o limit kept (x ∷ []) r h k =
    late_after cmp o limit kept r x (same_test (is_up_to cmp r) kept r x h (up_to_itself cmp o r) (is_up_to cmp r x) refl) k.0
one_left_out cmp o limit kept (x ∷ (y ∷ rest)) r h k =
    absurd (omega (arith, length_permutation _ _ h, length-append kept (r ∷ []), length-append rest kept))

-- one that may be left out is late
late_from_kept : {X : Type 0} (cmp : X → X → Ordering) → IsTotalOrder cmp → (limit : Option ℕ) (kept : List X) (r : X)
    → KeepsFirst cmp limit (kept ++ r ∷ []) kept → IsLate cmp limit kept r
late_from_kept cmp o limit kept r k = one_left_out cmp o limit kept k.left_out r k.all (recursion_from_All (IsLate cmp limit kept) k.left_out k.late)

-- one that is late may be left out
kept_from_late : {X : Type 0} (cmp : X → X → Ordering) (limit : Option ℕ) (kept : List X) (r : X)
    → IsLate cmp limit kept r → KeepsFirst cmp limit (kept ++ r ∷ []) kept
kept_from_late cmp limit kept r h = record {
  left_out = r ∷ [];
  all = subst (λ ys. IsPermutation (kept ++ r ∷ []) (r ∷ ys)) (append-nil kept) (IsPermutation-middle kept r []);
  late = All-from_recursion (IsLate cmp limit kept) (r ∷ []) (h, tt);
}

-- either one that is left out does not come after r, or none adds to the count
reached_step : {X : Type 0} (cmp : X → X → Ordering) → IsTotalOrder cmp
    → (n : ℕ) (kept : List X) (r x : X) (xs : List X) → n ≤ count_by (is_up_to cmp x) kept
    → (n ≤ count_by (is_up_to cmp r) (xs ++ kept) → n ≤ count_by (is_up_to cmp r) kept)
    → n ≤ count_by (is_up_to cmp r) (x ∷ (xs ++ kept)) → (b : Bool) → is_up_to cmp r x ≡ b
    → n ≤ count_by (is_up_to cmp r) kept
reached_step cmp o n kept r x xs h f k true e = late_after cmp o (Some n) kept r x e h
reached_step cmp o n kept r x xs h f k false e = f (omega (arith, k, count-no (is_up_to cmp r) x (xs ++ kept) e))

reached : {X : Type 0} (cmp : X → X → Ordering) → IsTotalOrder cmp → (n : ℕ) (kept : List X) (r : X) (xs : List X)
    → Each (IsLate cmp (Some n) kept) xs
    → n ≤ count_by (is_up_to cmp r) (xs ++ kept) → n ≤ count_by (is_up_to cmp r) kept
reached cmp o n kept r [] h k = k
reached cmp o n kept r (x ∷ xs) h k = reached_step cmp o n kept r x xs h.0 (reached cmp o n kept r xs h.1) k (is_up_to cmp r x) refl

-- what is late stays late when one more is offered
late_again : {X : Type 0} (cmp : X → X → Ordering) → IsTotalOrder cmp
    → (limit : Option ℕ) (old new : List X) (x r : X) → KeepsFirst cmp limit (old ++ x ∷ []) new
    → IsLate cmp limit old r → IsLate cmp limit new r
late_again cmp o None old new x r k h = h
late_again cmp o (Some n) old new x r k h =
    reached cmp o n new r k.left_out (recursion_from_All (IsLate cmp (Some n) new) k.left_out k.late)
    (omega (arith, h, count-append (is_up_to cmp r) old (x ∷ []), count-permutation (is_up_to cmp r) (old ++ x ∷ []) (k.left_out ++ new) k.all))

-- ---- of the rows of a piece

-- a row that comes after one that is none of the first n is none of them
none_after : (view : PieceView) (r x : Rank) → is_up_to row_order (out_row r []) (out_row x []) ≡ true
    → IsNoneOfFirst view x → IsNoneOfFirst view r
none_after (OfRows limit rows) r x h none = λ values. (
  refl,
  kept_from_late row_order limit rows (out_row r values)
      (late_after row_order row_total limit rows (out_row r values) (out_row x []) h (late_from_kept row_order row_total limit rows (out_row x []) (none []).1)),
)
none_after (OfGroups parts) r x h none = absurd (none [])

-- what is none of the first n rows is none of them when one more row was offered
none_again : (old new : PieceView) (row : OutRow) (r : Rank) → TakesRow old row new → IsNoneOfFirst old r
    → IsNoneOfFirst new r
none_again (OfRows limit rows) (OfRows pushed kept) row r takes none = λ values. (
  refl,
  subst (λ n. KeepsFirst row_order n (kept ++ out_row r values ∷ []) kept) (sym takes.0)
      (kept_from_late row_order limit kept (out_row r values)
      (late_again row_order row_total limit rows kept row (out_row r values) takes.1 (late_from_kept row_order row_total limit rows (out_row r values) (none values).1))),
)
none_again (OfRows limit rows) (OfGroups parts) row r takes none = absurd takes
none_again (OfGroups parts) new row r takes none = absurd takes

-- ---- of order keys

above : (n m : ℤ) → int_lt n m ≡ true → int_cmp m n ≡ Greater
above n m h = grind (arith, ints)

turned_above : (n m : ℤ) → int_lt m n ≡ true → int_cmp (neg_ℤ m) (neg_ℤ n) ≡ Greater
turned_above n m h = grind (arith, ints)

-- a row whose key is beyond a number comes after the rows with that number
pub after_number : (down : Bool) (n id other : ℤ) (key : Option ℤ) → is_beyond down (Some n) key ≡ true
    → is_up_to row_order (out_row (rank_by down key other) []) (out_row (rank_by down (Some n) id) []) ≡ true
after_number false n id other None h = absurd (cc h)
after_number true n id other None h = absurd (cc h)
after_number false n id other (Some m) h = ap (λ c. not (is_lt (ordering_then c (ordering_then (int_cmp other id) Equal)))) (above n m h)
after_number true n id other (Some m) h = ap (λ c. not (is_lt (ordering_then c (ordering_then (int_cmp other id) Equal)))) (turned_above n m h)

-- ---- cutoffs

-- what is beyond the cutoff stays none of the first n rows when one more row was offered
cutoff_again : (down : Bool) (old new : PieceView) (row : OutRow) (cutoff : Option ℤ) → TakesRow old row new
    → IsCutoff down old cutoff → IsCutoff down new cutoff
cutoff_again down old new row cutoff takes h = λ key id beyond. none_again old new row (rank_by down key id) takes (h key id beyond)

-- the cutoff once a row was offered
pub cutoff_next : (down : Bool) (old new : PieceView) (row : OutRow) (cutoff key : Option ℤ) (id : ℤ) (late : Bool)
    → TakesRow old row new
    → (late ≡ true → IsNoneOfFirst new (rank_by down key id)) → IsCutoff down old cutoff
    → IsCutoff down new (cutoff_after late cutoff key)
cutoff_next down old new row cutoff None id true takes none h = cutoff_again down old new row cutoff takes h
cutoff_next down old new row cutoff (Some n) id true takes none h =
    λ other other_id beyond. none_after new (rank_by down other other_id) (rank_by down (Some n) id) (after_number down n id other_id other beyond) (none refl)
cutoff_next down old new row cutoff key id false takes none h = cutoff_again down old new row cutoff takes h
