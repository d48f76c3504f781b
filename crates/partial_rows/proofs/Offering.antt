-- A row that is offered to the first n: put in, left out, or put in the place of the last one.
use Rattle.std.proofs.Common.{◌≡◌, ℕ, ◌≤◌, Bool, true, false, not, List, [], ◌∷◌, ◌++◌, length, Some, refl, sym, subst, arith, ap, ◌∙◌, ◌+◌, ◌<◌, map, take, get_or, is_lt, IsPermutation}
use Rattle.std.specs.Bool.{OnTrue}
use Rattle.std.specs.BinaryHeap.{IsUpperBound}
use Rattle.std.specs.Cmp.{IsTotalOrder}
use Rattle.std.specs.List.{AllByRecursion as Each}
use Rattle.std.proofs.lemmas.Cmp.{then_total, on_total, nat_cmp_total, int_cmp_total}
use Rattle.std.proofs.lemmas.List.{append_assoc, map-append, take_more}
use Rattle.std.proofs.lemmas.List.Elements.{All-from_recursion, recursion_from_All}
use Rattle.std.proofs.lemmas.List.Sorted.{IsPermutation-refl, IsPermutation-trans, IsPermutation-cons, IsPermutation-append_left, IsPermutation-to_front, All-permutation, length_permutation}
use Rattle.answer_rules.specs.Keeps.{KeepsFirst}
use Rattle.answer_rules.proofs.Keeping.{keeps_all, keeps_cut, keeps_joined}
use Rattle.answer_rules.proofs.KeptTwice.{keeps_again}
use Rattle.answer_rules.proofs.Sorting.{each-permutation}
use Rattle.answer_rules.proofs.Orders.{each_weaker, not_below_on}
use Rattle.partial_rows.specs.Rows.{rank_order, moved, IsBehindAll}
use Rattle.partial_rows.specs.declared.ranked.Ranked.{Ranked}

pub rank_total : IsTotalOrder rank_order
rank_total =
    then_total (on_total (λ (r : Ranked). r.class) nat_cmp_total)
    (then_total (on_total (λ (r : Ranked). r.value) int_cmp_total)
    (then_total (on_total (λ (r : Ranked). r.first) int_cmp_total) (on_total (λ (r : Ranked). r.second) int_cmp_total)))

-- what does not come before the last one comes before none
pub behind_all : (row last : Ranked) (xs : List Ranked) → IsUpperBound rank_order last xs → (b : Bool) → b ≡ not (is_lt (rank_order row last)) → OnTrue b (IsBehindAll row xs)
behind_all row last xs up false e = tt
behind_all row last xs up true e =
    each_weaker (λ m. is_lt (rank_order last m) ≡ false) (λ m. is_lt (rank_order row m) ≡ false) (λ m h. not_below_on rank_total m last row h (not_true (is_lt (rank_order row last)) e)) xs up
  where
    not_true : (c : Bool) → true ≡ not c → c ≡ false
    not_true false h = refl
    not_true true h = h

-- and what comes before none does not come before the last one
pub reported_behind : (row last : Ranked) (xs : List Ranked) → 0 < length xs → last ≡ get_or xs 0 last → (b : Bool) → b ≡ not (is_lt (rank_order row last)) → IsBehindAll row xs → b ≡ true
reported_behind row last [] some is b e h = absurd (omega (arith, some))
reported_behind row last (x ∷ xs) some is b e h = e ∙ ap not (ap (λ m. is_lt (rank_order row m)) is ∙ h.0)

-- put in
pub added : (n : ℕ) (old new : List Ranked) (row : Ranked) → IsPermutation (row ∷ old) new → KeepsFirst rank_order (Some n) (old ++ row ∷ []) new
added n old new row p = keeps_all rank_order (Some n) (old ++ row ∷ []) new (IsPermutation-trans _ _ _ (IsPermutation-to_front old row) p)

-- the last of all rows comes before none of the others
pub bounds_rest : (old rest : List Ranked) (last : Ranked) → IsPermutation old (last ∷ rest) → IsUpperBound rank_order last old → IsUpperBound rank_order last rest
bounds_rest old rest last p up = (each-permutation (λ y. is_lt (rank_order last y) ≡ false) old (last ∷ rest) p up).1

-- put in the place of the last one
pub replaced : (n : ℕ) (old rest new : List Ranked) (last row : Ranked) → IsPermutation old (last ∷ rest) → IsPermutation (row ∷ rest) new → IsUpperBound rank_order last rest → is_lt (rank_order last row) ≡ false → n ≤ length old → KeepsFirst rank_order (Some n) (old ++ row ∷ []) new
replaced n old rest new last row p q up before few =
    let one : IsPermutation (old ++ row ∷ []) (last ∷ (rest ++ row ∷ [])) = IsPermutation-append_left (row ∷ []) old (last ∷ rest) p in
    let two : IsPermutation (last ∷ (rest ++ row ∷ [])) (last ∷ new) = IsPermutation-cons last _ _ (IsPermutation-trans _ _ _ (IsPermutation-to_front rest row) q) in
    let below : Each (λ y. is_lt (rank_order last y) ≡ false) new =
    recursion_from_All (λ y. is_lt (rank_order last y) ≡ false) new (All-permutation (λ y. is_lt (rank_order last y) ≡ false) (row ∷ rest) new q (All-from_recursion (λ y. is_lt (rank_order last y) ≡ false) (row ∷ rest) (before, up)))
    in
    keeps_cut rank_order rank_total n (old ++ row ∷ []) (old ++ row ∷ []) last new (IsPermutation-trans _ _ _ one two) below
    (omega (arith, few, length_permutation _ _ p, length_permutation _ _ q)) (keeps_all rank_order (Some n) _ _ (IsPermutation-refl (old ++ row ∷ [])))

-- one row more is offered
pub one_more : (limit : ℕ) (start old new theirs : List Ranked) (by i : ℕ) (d : Ranked) → i < length theirs → KeepsFirst rank_order (Some limit) (start ++ map (moved by) (take i theirs)) old → KeepsFirst rank_order (Some limit) (old ++ moved by (get_or theirs i d) ∷ []) new → KeepsFirst rank_order (Some limit) (start ++ map (moved by) (take (i + 1) theirs)) new
one_more limit start old new theirs by i d l h k =
    let r : Ranked = moved by (get_or theirs i d) in
    let longer : map (moved by) (take (i + 1) theirs) ≡ map (moved by) (take i theirs) ++ r ∷ [] =
    ap (map (moved by)) (take_more theirs i d l) ∙ map-append (moved by) (take i theirs) (get_or theirs i d ∷ [])
    in
    let both : KeepsFirst rank_order (Some limit) ((start ++ map (moved by) (take i theirs)) ++ r ∷ []) (old ++ r ∷ []) =
    keeps_joined rank_order (Some limit) _ (r ∷ []) old (r ∷ []) h (keeps_all rank_order (Some limit) _ _ (IsPermutation-refl (r ∷ [])))
    in
    subst (λ rows. KeepsFirst rank_order (Some limit) rows new) (append_assoc start (map (moved by) (take i theirs)) (r ∷ []) ∙ ap (λ l. start ++ l) (sym longer))
    (keeps_again rank_order rank_total (Some limit) _ (old ++ r ∷ []) new both k)
