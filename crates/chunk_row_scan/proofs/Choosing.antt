-- Rows that are listed as candidates for the first n, or skipped, and why enough candidates have the first n.
use Rattle.std.proofs.Common.{◌≡◌, ◌∙◌, refl, sym, ap, subst, ℕ, zero, suc, ◌+◌, ◌-◌, ◌<◌, ◌≤◌, arith, ℤ, int_lt, Bool, true, false, List, [], ◌∷◌, ◌++◌, length, get_or, map, take, count_by, Option, None, Some, IsPermutation}
use Rattle.std.proofs.lemmas.Int.{ints}
use Rattle.std.proofs.lemmas.List.{append_assoc, map-append}
use Rattle.std.proofs.lemmas.List.Elements.{All-from_recursion, recursion_from_All}
use Rattle.std.proofs.lemmas.List.Sorted.{IsPermutation-append_left, IsPermutation-cons, IsPermutation-map, IsPermutation-to_front, IsPermutation-trans}
use Rattle.table_rules.specs.Objects.{Obj}
use Rattle.sky_row.specs.Columns.{no_row, objects_at}
use Rattle.value_rules.specs.Values.{row}
use Rattle.answer_rules.specs.declared.rewritten.ChunkQuery.{ChunkQuery}
use Rattle.answer_rules.specs.declared.row.OutRow.{OutRow}
use Rattle.answer_rules.specs.Keeps.{IsLate, KeepsFirst, is_up_to}
use Rattle.answer_rules.specs.Pieces.{chunk_down, chunk_key}
use Rattle.answer_rules.specs.Ranks.{row_order}
use Rattle.answer_rules.specs.Rows.{limit_of}
use Rattle.answer_rules.proofs.Apart.{each_map}
use Rattle.answer_rules.proofs.KeptTwice.{count_up}
use Rattle.answer_rules.proofs.Orders.{count-append, count-no, count-yes, each_weaker}
use Rattle.partial_rows.specs.Multisets.{out_row as ranked}
use Rattle.chunk_row_scan.specs.Candidates.{HaveFirst, IsRowBeyond, LackOnlyBeyond, is_row_up_to}
use Rattle.chunk_row_scan.specs.Computed.{key_in, keys_on, rank_by}
use Rattle.chunk_row_scan.specs.Cutoffs.{is_beyond, is_number_up_to}
use Rattle.chunk_row_scan.specs.Lines.{line}
use Rattle.chunk_row_scan.proofs.Computing.{key_there}
use Rattle.chunk_row_scan.proofs.Cutoffs.{after_number, not_true}
use Rattle.chunk_row_scan.proofs.Rows.{objects_more}

-- ---- one row more

module _ (cq : ChunkQuery) (cutoff : Option ℤ) where
  abbrev IsBeyond : Obj → Type 0
  IsBeyond = IsRowBeyond cq cutoff

  -- as a candidate
  listed : (rows candidates : List Obj) (o : Obj) → LackOnlyBeyond cq cutoff rows candidates → LackOnlyBeyond cq cutoff (rows ++ o ∷ []) (candidates ++ o ∷ [])
  listed rows candidates o h = record {
    left_out = h.left_out;
    all = subst (IsPermutation (rows ++ o ∷ [])) (append_assoc h.left_out candidates (o ∷ [])) (IsPermutation-append_left (o ∷ []) rows (h.left_out ++ candidates) h.all);
    beyond = h.beyond;
  }

  -- as one that is skipped
  skipped : (rows candidates : List Obj) (o : Obj) → IsBeyond o → LackOnlyBeyond cq cutoff rows candidates → LackOnlyBeyond cq cutoff (rows ++ o ∷ []) candidates
  skipped rows candidates o beyond h = record {
    left_out = o ∷ h.left_out;
    all = IsPermutation-trans _ _ _ (IsPermutation-to_front rows o) (IsPermutation-cons o _ _ h.all);
    beyond = All-from_recursion IsBeyond (o ∷ h.left_out) (beyond, recursion_from_All IsBeyond h.left_out h.beyond);
  }

  -- how many candidates are up to the cutoff
  pub one_more : (candidates : List Obj) (o : Obj) (old new : ℕ) → old ≡ count_by (is_row_up_to cq cutoff) candidates
      → (is_row_up_to cq cutoff o ≡ true → new ≡ old + 1) → (is_row_up_to cq cutoff o ≡ false → new ≡ old)
      → new ≡ count_by (is_row_up_to cq cutoff) (candidates ++ o ∷ [])
  one_more candidates o old new h counts stays = by_case (is_row_up_to cq cutoff o) refl
    where
      by_case : (b : Bool) → is_row_up_to cq cutoff o ≡ b → new ≡ count_by (is_row_up_to cq cutoff) (candidates ++ o ∷ [])
      by_case true e = omega (arith, h, counts e, count-append (is_row_up_to cq cutoff) candidates (o ∷ []), count-yes (is_row_up_to cq cutoff) o [] e)
      by_case false e = omega (arith, h, stays e, count-append (is_row_up_to cq cutoff) candidates (o ∷ []), count-no (is_row_up_to cq cutoff) o [] e)

  -- ---- rows at places

  module _ (objects : List Obj) (places : List ℕ) where
    abbrev LacksAt : ℕ → List Obj → Type 0
    LacksAt j candidates = LackOnlyBeyond cq cutoff (objects_at objects (take j places)) candidates

    pub place_listed : (j : ℕ) (few now : List ℕ) → j < length places → now ≡ few ++ get_or places j 0 ∷ []
        → LacksAt j (objects_at objects few) → LacksAt (j + 1) (objects_at objects now)
    place_listed j few now low put h =
        let o : Obj = get_or objects (get_or places j 0) no_row in
        subst (LacksAt (j + 1)) (sym (ap (objects_at objects) put ∙ map-append (λ place. get_or objects place no_row) few (get_or places j 0 ∷ [])))
        (subst (λ rows. LackOnlyBeyond cq cutoff rows (objects_at objects few ++ o ∷ [])) (sym (objects_more objects places j low))
        (listed (objects_at objects (take j places)) (objects_at objects few) o h))

    pub places_skipped : (down : Bool) (keys : Option (List (Option ℤ))) (from to : ℕ) (candidates : List Obj) → from ≤ to
        → to ≤ length places → down ≡ chunk_down cq.order → keys ≡ keys_on (objects_at objects places) cq.order
        → ((j : ℕ) → from ≤ j → j < to → is_beyond down cutoff (key_in keys j) ≡ true)
        → LacksAt from candidates → LacksAt to candidates
    places_skipped down keys from to candidates order high turned known beyond h =
        subst (λ j. LacksAt j candidates) (let e : from + (to - from) ≡ to = omega (arith, order) in e) (by_count (to - from) (omega (arith, order)))
      where
        row_beyond : (j : ℕ) → from ≤ j → j < to → IsBeyond (get_or objects (get_or places j 0) no_row)
        row_beyond j first low =
            let key : key_in keys j ≡ chunk_key cq.order (row (get_or objects (get_or places j 0) no_row)) =
            ap (λ ks. key_in ks j) known ∙ key_there cq.order objects places j (omega (arith, low, high)) in
            subst (λ d. is_beyond d cutoff (chunk_key cq.order (row (get_or objects (get_or places j 0) no_row))) ≡ true) turned
            (subst (λ k. is_beyond down cutoff k ≡ true) key (beyond j first low))

        by_count : (n : ℕ) → from + n ≤ to → LacksAt (from + n) candidates
        by_count zero low = subst (λ j. LacksAt j candidates) (let e : from ≡ from + 0 = omega arith in e) h
        by_count (suc n) low =
            subst (λ j. LacksAt j candidates) (let e : (from + n) + 1 ≡ from + suc n = omega arith in e)
            (subst (λ rows. LackOnlyBeyond cq cutoff rows candidates) (sym (objects_more objects places (from + n) (omega (arith, low, high))))
            (skipped (objects_at objects (take (from + n) places)) candidates (get_or objects (get_or places (from + n) 0) no_row)
            (row_beyond (from + n) (omega arith) (omega (arith, low))) (by_count n (omega (arith, low)))))

-- ---- enough candidates

-- a number that does not come after the cutoff comes before one that does
between : (c r m : ℤ) → int_lt c r ≡ true → int_lt c m ≡ false → int_lt m r ≡ true
between c r m h k = grind (arith, ints)

between_down : (c r m : ℤ) → int_lt r c ≡ true → int_lt m c ≡ false → int_lt r m ≡ true
between_down c r m h k = grind (arith, ints)

-- a row up to the cutoff does not come after one beyond it
up_to_beyond : (down : Bool) (cutoff r m : Option ℤ) (id other : ℤ) → is_beyond down cutoff r ≡ true → is_number_up_to down cutoff m ≡ true
    → is_up_to row_order (ranked (rank_by down r other) []) (ranked (rank_by down m id) []) ≡ true
up_to_beyond down None r m id other h k = absurd (cc h)
up_to_beyond down (Some c) None m id other h k = absurd (cc h)
up_to_beyond down (Some c) (Some r) None id other h k = absurd (cc k)
up_to_beyond false (Some c) (Some r) (Some m) id other h k = after_number false m id other (Some r) (between c r m h (not_true (int_lt c m) k))
up_to_beyond true (Some c) (Some r) (Some m) id other h k = after_number true m id other (Some r) (between_down c r m h (not_true (int_lt m c) k))

count_map_step : {A B : Type 0} (q : B → Bool) (f : A → B) (a : A) (rest : List A) → count_by q (map f rest) ≡ count_by (λ x. q (f x)) rest
    → (b : Bool) → q (f a) ≡ b → count_by q (map f (a ∷ rest)) ≡ count_by (λ x. q (f x)) (a ∷ rest)
count_map_step q f a rest h true k = omega (arith, h, count-yes (λ x. q (f x)) a rest k, count-yes q (f a) (map f rest) k)
count_map_step q f a rest h false k = omega (arith, h, count-no (λ x. q (f x)) a rest k, count-no q (f a) (map f rest) k)

count_map : {A B : Type 0} (q : B → Bool) (f : A → B) (xs : List A) → count_by q (map f xs) ≡ count_by (λ x. q (f x)) xs
count_map q f [] = refl
count_map q f (a ∷ rest) = count_map_step q f a rest (count_map q f rest) (q (f a)) refl

-- n candidates up to the cutoff are as many as come first, so no row that was skipped is one of the first n
pub have_first : (cq : ChunkQuery) (cutoff : Option ℤ) (n numbers : ℕ) (rows candidates : List Obj) → limit_of cq.limit ≡ Some n
    → LackOnlyBeyond cq cutoff rows candidates → numbers ≡ count_by (is_row_up_to cq cutoff) candidates → n ≤ numbers
    → HaveFirst cq rows candidates
have_first cq cutoff n numbers rows candidates limit h are enough =
    subst (λ m. KeepsFirst row_order m (map (line cq) rows) (map (line cq) candidates)) (sym limit)
    (record {
      left_out = map (line cq) h.left_out;
      all = subst (IsPermutation (map (line cq) rows)) (map-append (line cq) h.left_out candidates) (IsPermutation-map (line cq) rows (h.left_out ++ candidates) h.all);
      late = All-from_recursion IsLateLine (map (line cq) h.left_out)
          (each_map IsLateLine (line cq) h.left_out
          (each_weaker (IsBeyond cq cutoff) (λ o. IsLateLine (line cq o)) late_line h.left_out (recursion_from_All (IsBeyond cq cutoff) h.left_out h.beyond)));
    })
  where
    IsLateLine : OutRow → Type 0
    IsLateLine r = IsLate row_order (Some n) (map (line cq) candidates) r

    late_line : (o : Obj) → IsBeyond cq cutoff o → IsLateLine (line cq o)
    late_line o beyond =
        omega (
          arith,
          enough,
          are,
          count_up (is_row_up_to cq cutoff) (λ m. is_up_to row_order (line cq o) (line cq m))
              (λ m h. up_to_beyond (chunk_down cq.order) cutoff (chunk_key cq.order (row o)) (chunk_key cq.order (row m)) m.id o.id beyond h) candidates,
          count_map (is_up_to row_order (line cq o)) (line cq) candidates,
        )
