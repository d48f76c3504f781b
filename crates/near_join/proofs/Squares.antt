-- The pairs of a list with itself, taken one element after the other: each with itself, and with those behind it in both orders.
use Rattle.std.proofs.Common.{◌≡◌, Bool, true, false, cond, ◌&&◌, List, [], ◌∷◌, ◌++◌, append_assoc, filter, map, refl, sym, ap, subst, ◌∙◌, IsPermutation}
use Rattle.std.specs.List.{flat_map}
use Rattle.std.proofs.lemmas.List.Sorted.{IsPermutation-refl, IsPermutation-sym, IsPermutation-trans, IsPermutation-append_left, IsPermutation-append_right}
use Rattle.near_join.proofs.Filters.{blocks_kept, blocks_same, each_of_all}
use Rattle.near_join.proofs.Shuffles.{to_front}

-- blocks that are each of two parts
two_blocks : {X Y : Type 0} (f h : X → List Y) (xs : List X) → IsPermutation (flat_map (λ x. f x ++ h x) xs) (flat_map f xs ++ flat_map h xs)
two_blocks f h [] = IsPermutation-refl []
two_blocks f h (x ∷ xs) =
    let fs = flat_map f xs in
    let hs = flat_map h xs in
    let later : IsPermutation ((f x ++ h x) ++ flat_map (λ x. f x ++ h x) xs) ((f x ++ h x) ++ (fs ++ hs)) = IsPermutation-append_right (f x ++ h x) _ _ (two_blocks f h xs) in
    let moved : IsPermutation (f x ++ (h x ++ (fs ++ hs))) (f x ++ (fs ++ (h x ++ hs))) = IsPermutation-append_right (f x) _ _ (IsPermutation-sym _ _ (to_front fs (h x) hs)) in
    IsPermutation-trans _ _ _ later
    (subst (λ l. IsPermutation l ((f x ++ fs) ++ (h x ++ hs))) (sym (append_assoc (f x) (h x) (fs ++ hs)))
    (subst (IsPermutation (f x ++ (h x ++ (fs ++ hs)))) (sym (append_assoc (f x) fs (h x ++ hs))) moved))

module _ {X Y : Type 0} (one : X → X → List Y) where
  -- the pairs of some elements with others
  abbrev pub across : List X → List X → List Y
  across others xs = flat_map (λ x. flat_map (one x) others) xs

  -- one element more in front
  pub one_in_front : (u : X) (xs : List X) → IsPermutation ((one u u ++ flat_map (λ v. one u v ++ one v u) xs) ++ across xs xs) (across (u ∷ xs) (u ∷ xs))
  one_in_front u xs =
      let firsts = flat_map (one u) xs in
      let seconds = flat_map (λ v. one v u) xs in
      let orders : IsPermutation (flat_map (λ v. one u v ++ one v u) xs) (firsts ++ seconds) = two_blocks (one u) (λ v. one v u) xs in
      let rest : IsPermutation (seconds ++ across xs xs) (flat_map (λ v. one v u ++ flat_map (one v) xs) xs) =
      IsPermutation-sym _ _ (two_blocks (λ v. one v u) (λ v. flat_map (one v) xs) xs) in
      let start : IsPermutation ((one u u ++ flat_map (λ v. one u v ++ one v u) xs) ++ across xs xs) ((one u u ++ (firsts ++ seconds)) ++ across xs xs) =
      IsPermutation-append_left (across xs xs) _ _ (IsPermutation-append_right (one u u) _ _ orders) in
      let same : (one u u ++ (firsts ++ seconds)) ++ across xs xs ≡ (one u u ++ firsts) ++ (seconds ++ across xs xs) =
      ap (λ l. l ++ across xs xs) (sym (append_assoc (one u u) firsts seconds)) ∙ append_assoc (one u u ++ firsts) seconds (across xs xs) in
      IsPermutation-trans _ _ _ (subst (IsPermutation ((one u u ++ flat_map (λ v. one u v ++ one v u) xs) ++ across xs xs)) same start)
      (IsPermutation-append_right (one u u ++ firsts) _ _ rest)

module _ {X Y : Type 0} (held : X → Bool) (test : X → X → Bool) (f : X → X → Y) where
  -- the pair of two elements, where the first is held and they pass the test
  abbrev pub single : X → X → List Y
  single u v = cond (held u && test u v) (f u v ∷ []) []

  -- the pairs of one element with those of the others with which it passes the test
  abbrev pub tested : List X → X → List Y
  tested others u = map (f u) (filter (test u) others)

  one_step : (u v : X) (kept : List X) (rest : List Y) (b : Bool) → map (f u) kept ≡ rest → map (f u) (cond b (v ∷ kept) kept) ≡ cond b (f u v ∷ []) [] ++ rest
  one_step u v kept rest true e = ap (λ l. f u v ∷ l) e
  one_step u v kept rest false e = e

  by_held : (u : X) (b : Bool) (others : List X) → cond b (tested others u) [] ≡ flat_map (λ v. cond (b && test u v) (f u v ∷ []) []) others
  by_held u true [] = refl
  by_held u true (v ∷ others) = one_step u v (filter (test u) others) (flat_map (λ v. cond (test u v) (f u v ∷ []) []) others) (test u v) (by_held u true others)
  by_held u false [] = refl
  by_held u false (v ∷ others) = by_held u false others

  -- the pairs of the elements that are held, as blocks of at most one
  pub held_across : (others xs : List X) → flat_map (tested others) (filter held xs) ≡ across single others xs
  held_across others xs =
      sym (blocks_kept held (tested others) xs)
      ∙ blocks_same (λ x. cond (held x) (tested others x) []) (λ x. flat_map (single x) others) xs
      (each_of_all (λ x. cond (held x) (tested others x) [] ≡ flat_map (single x) others) (λ x. by_held x (held x) others) xs)

  -- one element more in front
  pub held_in_front : (u : X) (xs : List X)
      → IsPermutation ((single u u ++ flat_map (λ v. single u v ++ single v u) xs) ++ flat_map (tested xs) (filter held xs)) (flat_map (tested (u ∷ xs)) (filter held (u ∷ xs)))
  held_in_front u xs =
      subst (λ l. IsPermutation ((single u u ++ flat_map (λ v. single u v ++ single v u) xs) ++ l) (flat_map (tested (u ∷ xs)) (filter held (u ∷ xs)))) (sym (held_across xs xs))
      (subst (IsPermutation ((single u u ++ flat_map (λ v. single u v ++ single v u) xs) ++ across single xs xs)) (sym (held_across (u ∷ xs) (u ∷ xs))) (one_in_front single u xs))
