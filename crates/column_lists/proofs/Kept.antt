-- Values that are kept in the row.
use Rattle.std.proofs.Common.{◌≡◌, ◌∙◌, sym, refl, ap, ℕ, ◌+◌, ◌≤◌, ◌<◌, min, arith, List, [], ◌∷◌, ◌++◌, length, map, take, set, Option, Some, ℤ, get_or}
use Rattle.std.specs.Prelude.{slice_get}
use Rattle.std.specs.Option.{option_map}
use Rattle.std.proofs.lemmas.List.{length-map, length-take, get_or-take, map-append, take_more_set}
use Rattle.std.proofs.lemmas.Option.{slice_get-map, slice_get-get_or}
use Rattle.column_lists.specs.Cells.{told}
use Rattle.table_rules.specs.declared.limits.TheConstants.{FURTHER_COLUMNS_MOST}

-- so many values are taken as there are
pub taken_is : (values : List (Option ℤ)) (taken : ℕ) (numbers : List ℤ) → map told (take taken numbers) ≡ values
    → taken ≤ length numbers → taken ≡ length values
taken_is values taken numbers is few =
    let e : length (take taken numbers) ≡ length values = sym (length-map _ _) ∙ ap length is in
    let m : length (take taken numbers) ≡ min taken (length numbers) = length-take taken numbers in
    omega (arith, e, m, few)

-- one number more stands for one value more
pub kept_more : (values : List (Option ℤ)) (taken : ℕ) (numbers : List ℤ) (number : ℤ) (value : Option ℤ) → map told (take taken numbers) ≡ values
    → taken < length numbers → told number ≡ value → map told (take (taken + 1) (set numbers taken number)) ≡ values ++ value ∷ []
kept_more values taken numbers number value is low stands =
    ap (map told) (take_more_set numbers taken number low)
    ∙ (map-append told (take taken numbers) (number ∷ []) ∙ cc (is, stands))

-- the number in a place that is taken stands for the value with that place
pub told_at : (values : List (Option ℤ)) (taken i : ℕ) (numbers : List ℤ) (d : ℤ)
    → map told (take taken numbers) ≡ values → i < length values → slice_get values i ≡ Some (told (get_or numbers i d))
told_at values taken i numbers d is low =
    let e : length (take taken numbers) ≡ length values = sym (length-map _ _) ∙ ap length is in
    let m : length (take taken numbers) ≡ min taken (length numbers) = length-take taken numbers in
    let read = slice_get-get_or (take taken numbers) i d (omega (arith, e, low)) in
    let number = ap Some (get_or-take taken numbers i d (omega (arith, e, m, low))) in
    sym (ap (λ l. slice_get l i) is) ∙ slice_get-map told (take taken numbers) i ∙ ap (option_map told) (read ∙ number)

-- a place that is taken is one of the twelve
pub below_twelve : (values : List (Option ℤ)) (taken i : ℕ) (numbers : List ℤ) → map told (take taken numbers) ≡ values
    → taken ≤ FURTHER_COLUMNS_MOST → i < length values → i < FURTHER_COLUMNS_MOST
below_twelve values taken i numbers is few low =
    let e : length (take taken numbers) ≡ length values = sym (length-map _ _) ∙ ap length is in
    let m : length (take taken numbers) ≡ min taken (length numbers) = length-take taken numbers in
    omega (arith, e, m, few, low)
