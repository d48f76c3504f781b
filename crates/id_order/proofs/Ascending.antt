-- Ids that ascend strictly are distinct.
use Rattle.std.proofs.Common.{◌≡◌, ap, subst, refl, List, [], ◌∷◌, map, ℤ}
use Rattle.std.specs.List.{IsDistinct}
use Rattle.std.specs.Ordering.{int_eq}
use Rattle.std.proofs.lemmas.List.Sorted.{IsPermutation-refl}
use Rattle.sky_row.specs.Columns.{AreAscending}
use Rattle.table_rules.proofs.Order.{distinct_by_table}

same_ids : (ids : List ℤ) → map (λ z. z) ids ≡ ids
same_ids [] = refl
same_ids (z ∷ ids) = ap (λ l. z ∷ l) (same_ids ids)

pub ascending_are_distinct : (ids : List ℤ) → AreAscending ids → IsDistinct int_eq ids
ascending_are_distinct ids up =
    subst (IsDistinct int_eq) (same_ids ids) (distinct_by_table (λ z. z) ids ids (record { same = IsPermutation-refl ids; ascend = up }))
