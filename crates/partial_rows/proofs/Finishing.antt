-- Rows that were sorted by their ranks are the rows in order.
use Rattle.std.proofs.Common.{◌≡◌, ℕ, zero, suc, ℤ, List, [], ◌∷◌, map, Option, Some, None, refl, sym, IsPermutation, IsSorted}
use Rattle.std.specs.List.{All, AllByRecursion as Each}
use Rattle.std.specs.Prelude.{false}
use Rattle.std.specs.Ordering.{is_lt}
use Rattle.std.proofs.lemmas.List.{take-map}
use Rattle.std.proofs.lemmas.List.Elements.{All-from_recursion, recursion_from_All}
use Rattle.std.proofs.lemmas.List.Sorted.{IsPermutation-map, All-permutation}
use Rattle.answer_rules.specs.InOrder.{first, in_order}
use Rattle.answer_rules.specs.Keeps.{AreApart}
use Rattle.answer_rules.specs.Ranks.{row_order}
use Rattle.answer_rules.proofs.Apart.{each_map}
use Rattle.answer_rules.proofs.Ascending.{sorted_ascends}
use Rattle.answer_rules.proofs.Sorting.{Ascends, only_order}
use Rattle.answer_rules.proofs.Totals.{row_total}
use Rattle.partial_rows.specs.declared.ranked.Ranked.{Ranked}
use Rattle.partial_rows.specs.Rows.{IsIn, rank_order, row_of}
use Rattle.partial_rows.proofs.Offering.{rank_total}

rows_ascend : (cells : List (Option ℤ)) (rows : List Ranked) → Ascends rank_order rows → Ascends row_order (map (row_of cells) rows)
rows_ascend cells [] h = tt
rows_ascend cells (r ∷ rows) h = (each_map (λ y. is_lt (row_order y (row_of cells r)) ≡ false) (row_of cells) rows h.0, rows_ascend cells rows h.1)

-- sorted rows are the rows in order
pub sorted_rows : (cells : List (Option ℤ)) (rows sorted : List Ranked) → AreApart row_order (map (row_of cells) rows) → IsPermutation rows sorted → IsSorted rank_order sorted → map (row_of cells) sorted ≡ in_order row_order (map (row_of cells) rows)
sorted_rows cells rows sorted apart p s =
    only_order row_order row_total (map (row_of cells) rows) (map (row_of cells) sorted) apart (IsPermutation-map (row_of cells) rows sorted p)
    (rows_ascend cells sorted (sorted_ascends rank_order rank_total sorted s))

-- the first of them
pub first_rows : (cells : List (Option ℤ)) (limit : Option ℕ) (rows : List Ranked) → map (row_of cells) (first limit rows) ≡ first limit (map (row_of cells) rows)
first_rows cells None rows = refl
first_rows cells (Some n) rows = sym (take-map (row_of cells) n rows)

each_first : (P : Ranked → Type 0) (limit : Option ℕ) (rows : List Ranked) → Each P rows → Each P (first limit rows)
each_first P None rows h = h
each_first P (Some zero) rows h = tt
each_first P (Some (suc n)) [] h = tt
each_first P (Some (suc n)) (r ∷ rows) h = (h.0, each_first P (Some n) rows h.1)

-- the values of the first of the sorted rows are there
pub first_there : (cells : ℕ) (limit : Option ℕ) (rows sorted : List Ranked) → All (IsIn cells) rows → IsPermutation rows sorted → All (IsIn cells) (first limit sorted)
first_there cells limit rows sorted h p =
    All-from_recursion (IsIn cells) _ (each_first (IsIn cells) limit sorted (recursion_from_All (IsIn cells) sorted (All-permutation (IsIn cells) rows sorted p h)))
