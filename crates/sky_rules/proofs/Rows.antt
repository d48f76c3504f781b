-- The rows into which a stripe is cut: they begin at its bound, end where it does, and each height is in exactly one.
use Rattle.std.proofs.Common.{◌≡◌, ℕ, suc, zero, ◌+◌, ◌*◌, ◌/◌, ◌%◌, ◌≤◌, ◌<◌, arith, ap, inl, inr, subst, sym, ◌-◌}
use Rattle.std.proofs.Math.Nat.{lt-div-mul-add, div-mul-le_self}
use Rattle.std.proofs.lemmas.Bool.{cases_lt}
use Rattle.std.proofs.lemmas.Nat.{le-div, div_below, div-mul-add}
use Rattle.wedge_rules.proofs.Products.{times_le}
use Rattle.sky_rules.specs.Laws.{RowByDivision}

-- where row t of a stripe of height h begins, above the stripe's bound
abbrev pub start : ℕ → ℕ → ℕ → ℕ
start h rows t = t * h / rows

-- a later row does not begin lower
pub start_up : (h rows t u : ℕ) → 0 < rows → t ≤ u → start h rows t ≤ start h rows u
start_up h rows t u some le =
    let more = times_le t u h le in
    let quotient = div-mul-le_self (t * h) rows in
    le-div (t * h / rows) (u * h) rows some (omega (arith, more, quotient))

-- the row behind the last would begin where the stripe ends
pub start_end : (h rows : ℕ) → 0 < rows → start h rows rows ≡ h
start_end h rows some =
    let e : rows * h ≡ h * rows + 0 = omega arith in
    subst (λ n. n / rows ≡ h) (sym e) (div-mul-add h rows 0 some)

-- the first row begins at the bound
pub start_first : (h rows : ℕ) → 0 < rows → start h rows 0 ≡ 0
start_first h rows some =
    let e : 0 * h ≡ 0 * rows + 0 = omega arith in
    subst (λ n. n / rows ≡ 0) (sym e) (div-mul-add 0 rows 0 some)

-- where a count begins at or below d and ends above it, one of its steps does
step_at : (f : ℕ → ℕ) (n d : ℕ) → f 0 ≤ d → d < f n → (t : ℕ) × (t < n) × (f t ≤ d) × (d < f (t + 1))
step_at f zero d low high = absurd (omega (arith, low, high))
step_at f (suc n) d low high = elim (cases_lt d (f n)) [
  | inl l ↦ let s = step_at f n d low l in (s.0, omega (arith, s.1), s.2, s.3)
  | inr l ↦ (n, omega arith, l, let e : n + 1 ≡ suc n = omega arith in subst (λ k. d < f k) (sym e) high)
]

-- each height of the stripe is in a row
pub row_at : (h rows d : ℕ) → 0 < rows → d < h → (t : ℕ) × (t < rows) × (start h rows t ≤ d) × (d < start h rows (t + 1))
row_at h rows d some high =
    let first = start_first h rows some in
    let end = start_end h rows some in step_at (start h rows) rows d (omega (arith, first)) (omega (arith, end, high))

-- and in no row before
not_before : (h rows d t u : ℕ) → 0 < rows → start h rows t ≤ d → d < start h rows (u + 1) → t ≤ u
not_before h rows d t u some low high = elim (cases_lt u t) [
  | inl l ↦ let up = start_up h rows (u + 1) t some (omega (arith, l)) in omega (arith, up, low, high)
  | inr l ↦ l
]

-- it is in only one
pub one_row : (h rows d t u : ℕ) → 0 < rows → start h rows t ≤ d → d < start h rows (t + 1) → start h rows u ≤ d → d < start h rows (u + 1) → t ≡ u
one_row h rows d t u some low high low' high' =
    let a = not_before h rows d t u some low high' in
    let b = not_before h rows d u t some low' high in omega (arith, a, b)

-- the row that holds a height is found by one division
pub row_by_division : RowByDivision
row_by_division h rows d t some high e =
    let hs : 0 < h = omega (arith, high) in
    let n = (d + 1) * rows - 1 in
    let low = div-mul-le_self n h in
    let up = lt-div-mul-add {a = n} hs in
    let same : t * h ≡ n / h * h = ap (λ k. k * h) e in
    let size = times_le (d + 1) h rows (omega (arith, high)) in
    let one = times_le 1 (d + 1) rows (omega arith) in
    let quotient = div-mul-le_self (t * h) rows in (
      elim (cases_lt t rows) [
        | inl l ↦ l
        | inr l ↦ let more = times_le rows t h l in omega (arith, more, same, low, size, one, some)
      ],
      elim (cases_lt d (t * h / rows)) [
        | inl l ↦ let more = times_le (d + 1) (t * h / rows) rows (omega (arith, l)) in omega (arith, more, quotient, same, low, one, some)
        | inr l ↦ l
      ],
      let next = le-div (d + 1) ((t + 1) * h) rows some (omega (arith, same, up, one)) in omega (arith, next),
    )

-- the parts of a subchunk's number: its row and its column
pub row_below : (s rows columns : ℕ) → 0 < columns → s < rows * columns → s / columns < rows
row_below s rows columns some h = div_below s columns rows some h

-- its column is one of the columns
pub column_below : (s columns : ℕ) → 0 < columns → s % columns < columns
column_below s columns some = omega (arith, some)

-- the number of a row and a column is one of the subchunks
pub number_below : (t j rows columns : ℕ) → t < rows → j < columns → t * columns + j < rows * columns
number_below t j rows columns h k = let more = times_le (t + 1) rows columns (omega (arith, h)) in omega (arith, more, k)
