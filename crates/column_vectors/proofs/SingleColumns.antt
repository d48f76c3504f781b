-- The numbers of a column in which each row has a value.
use Rattle.std.proofs.Common.{◌≡◌, ◌∙◌, ◌<◌, ℤ, pos, refl, ap, arith, List, length, get_or, map, Option, Some, None, All}
use Rattle.std.specs.Prelude.{IsTrue, is_some}
use Rattle.std.proofs.lemmas.List.{get_or-map, get_or_default, length-map, same_lists}
use Rattle.column_lists.specs.Columns.{or_zero}

some_is : (v : Option ℤ) → IsTrue (is_some v) → Some (or_zero v) ≡ v
some_is None h = absurd cc
some_is (Some z) h = refl

-- where each row has a value, the numbers are all of them
pub some_numbers : (column : List (Option ℤ)) → All (λ v. IsTrue (is_some v)) column → map Some (map or_zero column) ≡ column
some_numbers column all =
    same_lists (map Some (map or_zero column)) column (length-map (map or_zero column) Some ∙ length-map column or_zero)
    (λ k d low.
    let within : k < length (map or_zero column) = omega (arith, low, length-map (map or_zero column) Some) in
    let there : k < length column = omega (arith, within, length-map column or_zero) in
    get_or-map Some (map or_zero column) k (pos 0) d within
    ∙ (ap Some (get_or-map or_zero column k None (pos 0) there)
    ∙ (some_is (get_or column k None) (all k None there) ∙ get_or_default column k None d there)))
