-- Masks that are narrowed by tests of values.
use Rattle.std.proofs.Common.{◌≡◌, ◌∙◌, refl, sym, ap, ℕ, ◌<◌, arith, ℤ, pos, Bool, true, false, ◌&&◌, ◌⊎◌, inl, inr, List, length, get_or, map, Option, None, Some}
use Rattle.std.specs.Option.{is_some}
use Rattle.std.proofs.lemmas.List.{get_or-map}
use Rattle.column_lists.specs.Columns.{or_zero}
use Rattle.sql_tree.specs.declared.cond.Cmp.{Cmp}
use Rattle.value_rules.specs.Truth.{compares}
use Rattle.lane_filter.specs.Tests.{IsKeptBy, is_from_to}
use Rattle.source_filter.specs.declared.test.Test.{Test}
use Rattle.source_filter.specs.declared.test.Test.TheVariants.{Compare, Range}
use Rattle.source_filter.specs.Masks.{IsNarrowedBy}
use Rattle.source_filter.specs.Tests.{number_passes, passes}

either_false : (a b : Bool) → (a && b) ≡ false → (a ≡ false) ⊎ (b ≡ false)
either_false true b h = inr h
either_false false b h = inl refl

-- a mask that is kept by a test
pub kept_narrows : (fails : ℕ → Type 0) (test : ℕ → Bool) (old new : List Bool) → length new ≡ length old → IsKeptBy test old new
    → ((k : ℕ) → k < length old → test k ≡ false → fails k) → IsNarrowedBy fails old new
kept_narrows fails test old new count kept h = record {
  count = count;
  cleared = λ k low off. by_part k low (either_false (get_or old k false) (test k) (sym (kept k low) ∙ off));
}
  where
    by_part : (k : ℕ) → k < length old → (get_or old k false ≡ false) ⊎ (test k ≡ false) → (get_or old k false ≡ false) ⊎ fails k
    by_part k low (inl off) = inl off
    by_part k low (inr off) = inr (h k low off)

-- a mask that is left as it is
pub narrowed_not : (fails : ℕ → Type 0) (mask : List Bool) → IsNarrowedBy fails mask mask
narrowed_not fails mask = record { count = refl; cleared = λ k low off. inl off }

-- numbers that compare so with a number
pub compare_narrows : (t : Test) (op : Cmp) (n : ℤ) (numbers : List ℤ) (old new : List Bool) → t ≡ Compare op n → length new ≡ length old
    → IsKeptBy (λ k. compares op (get_or numbers k (pos 0)) n) old new → IsNarrowedBy (λ k. number_passes t (get_or numbers k (pos 0)) ≡ false) old new
compare_narrows t op n numbers old new is same kept =
    kept_narrows (λ k. number_passes t (get_or numbers k (pos 0)) ≡ false) (λ k. compares op (get_or numbers k (pos 0)) n) old new same kept
    (λ k low off. ap (λ t. number_passes t (get_or numbers k (pos 0))) is ∙ off)

-- numbers in a range
pub range_narrows : (t : Test) (low high : ℤ) (numbers : List ℤ) (old new : List Bool) → t ≡ Range low high → length new ≡ length old
    → IsKeptBy (λ k. is_from_to low high (get_or numbers k (pos 0))) old new → IsNarrowedBy (λ k. number_passes t (get_or numbers k (pos 0)) ≡ false) old new
unfolding is_from_to
range_narrows t low high numbers old new is same kept =
    kept_narrows (λ k. number_passes t (get_or numbers k (pos 0)) ≡ false) (λ k. is_from_to low high (get_or numbers k (pos 0))) old new same kept
    (λ k there off. ap (λ t. number_passes t (get_or numbers k (pos 0))) is ∙ off)

-- one reason to fail is another
pub narrowed_if : (f g : ℕ → Type 0) (old new : List Bool) → ((k : ℕ) → k < length old → f k → g k) → IsNarrowedBy f old new → IsNarrowedBy g old new
narrowed_if f g old new h by = record { count = by.count; cleared = λ k low off. by_part k low (by.cleared k low off) }
  where
    by_part : (k : ℕ) → k < length old → (get_or old k false ≡ false) ⊎ f k → (get_or old k false ≡ false) ⊎ g k
    by_part k low (inl off) = inl off
    by_part k low (inr fails) = inr (h k low fails)

-- a mask that is narrowed twice
pub narrowed_twice : (fails : ℕ → Type 0) (old mid new : List Bool) → IsNarrowedBy fails old mid → IsNarrowedBy fails mid new → IsNarrowedBy fails old new
narrowed_twice fails old mid new first second = record {
  count = second.count ∙ first.count;
  cleared = λ k low off. by_part k low (second.cleared k (omega (arith, low, first.count)) off);
}
  where
    by_part : (k : ℕ) → k < length old → (get_or mid k false ≡ false) ⊎ fails k → (get_or old k false ≡ false) ⊎ fails k
    by_part k low (inl off) = first.cleared k low off
    by_part k low (inr fails) = inr fails

-- ---- values of a column

number_fails : (t : Test) (v : Option ℤ) → number_passes t (or_zero v) ≡ false → passes t v ≡ false
number_fails t None h = refl
number_fails t (Some z) h = h

null_fails : (t : Test) (v : Option ℤ) → v ≡ None → passes t v ≡ false
null_fails t v h = ap (passes t) h

-- the numbers of a column, and then its NULLs
pub values_narrow : (t : Test) (column : List (Option ℤ)) (numbers : List ℤ) (old mid new : List Bool) → numbers ≡ map or_zero column → length column ≡ length old
    → IsNarrowedBy (λ k. number_passes t (get_or numbers k (pos 0)) ≡ false) old mid → IsNarrowedBy (λ k. get_or column k None ≡ None) mid new
    → IsNarrowedBy (λ k. passes t (get_or column k None) ≡ false) old new
values_narrow t column numbers old mid new is count first second =
    narrowed_twice (λ k. passes t (get_or column k None) ≡ false) old mid new
    (narrowed_if (λ k. number_passes t (get_or numbers k (pos 0)) ≡ false) (λ k. passes t (get_or column k None) ≡ false) old mid
    (λ k low off. number_fails t (get_or column k None)
    (ap (number_passes t) (sym (ap (λ l. get_or l k (pos 0)) is ∙ get_or-map or_zero column k None (pos 0) (omega (arith, low, count)))) ∙ off)) first)
    (narrowed_if (λ k. get_or column k None ≡ None) (λ k. passes t (get_or column k None) ≡ false) mid new (λ k low null. null_fails t (get_or column k None) null) second)

is_null : (v : Option ℤ) → is_some v ≡ false → v ≡ None
is_null None h = refl
is_null (Some z) h = absurd (cc h)

-- the validity of a column
pub presence_narrows : (column : List (Option ℤ)) (present old new : List Bool) → length column ≡ length old → present ≡ map is_some column → length new ≡ length old
    → IsKeptBy (λ k. get_or present k false) old new → IsNarrowedBy (λ k. get_or column k None ≡ None) old new
presence_narrows column present old new count is same kept =
    kept_narrows (λ k. get_or column k None ≡ None) (λ k. get_or present k false) old new same kept
    (λ k low off. is_null (get_or column k None)
    (sym (ap (λ l. get_or l k false) is ∙ get_or-map is_some column k None false (omega (arith, low, count))) ∙ off))
