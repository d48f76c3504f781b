-- Rows of one key that stand one after the other.
use Rattle.std.proofs.Common.{◌≡◌, ◌∙◌, sym, ap, ℕ, zero, suc, ◌+◌, ◌-◌, ◌<◌, ◌≤◌, arith, ℤ, pos, Bool, false, List, length, get_or, map, None, Some, slice_range}
use Rattle.std.specs.Prelude.{All}
use Rattle.std.proofs.lemmas.List.{get_or-map, length-map}
use Rattle.std.proofs.lemmas.List.Edits.{get_or-between, length-between}
use Rattle.table_rules.specs.Objects.{Obj, cell}
use Rattle.sky_row.specs.Columns.{column_in, no_row}
use Rattle.sql_bound.specs.declared.expr.BoundCol.{BoundCol}
use Rattle.value_rules.specs.Values.{row}
use Rattle.answer_rules.specs.Keys.{key_of}
use Rattle.chunk_group_scan.specs.Runs.{AreStarts, IsMarked, IsMarkedBy}

-- rows up to the next mark have the key of the first
same_key : (keys : List BoundCol) (objects : List Obj) (starts : List Bool) (from to n : ℕ) → AreStarts keys objects starts → to ≤ length objects
    → ((j : ℕ) → from < j → j < to → get_or starts j false ≡ false) → from + n < to
    → key_of keys (row (get_or objects (from + n) no_row)) ≡ key_of keys (row (get_or objects from no_row))
same_key keys objects starts from to zero h there none low = ap (λ k. key_of keys (row (get_or objects k no_row))) (omega arith)
same_key keys objects starts from to (suc n) h there none low =
    let more : from + suc n ≡ (from + n) + 1 = omega arith in
    ap (λ k. key_of keys (row (get_or objects k no_row))) more
    ∙ (h (from + n) (omega (arith, low, there)) (none ((from + n) + 1) (omega arith) (omega (arith, low)))
    ∙ same_key keys objects starts from to n h there none (omega (arith, low)))

-- so they are of one key
pub run_of : (keys : List BoundCol) (objects : List Obj) (starts : List Bool) (from to : ℕ) → AreStarts keys objects starts → to ≤ length objects
    → ((j : ℕ) → from < j → j < to → get_or starts j false ≡ false)
    → All (λ p. key_of keys p ≡ key_of keys (row (get_or objects from no_row))) (map row (slice_range objects from to))
run_of keys objects starts from to h there none i d low =
    let long : length (slice_range objects from to) ≡ to - from = length-between objects from to there in
    let inside : i < length (slice_range objects from to) = omega (arith, low, length-map (slice_range objects from to) row) in
    ap (key_of keys) (get_or-map row (slice_range objects from to) i no_row d inside)
    ∙ (ap (λ o. key_of keys (row o)) (get_or-between objects from to i no_row (omega (arith, inside, long)))
    ∙ same_key keys objects starts from to i h there none (omega (arith, inside, long)))

-- marks by the numbers of a column that has one for each row are marks by the column
pub marked_whole : (objects : List Obj) (col n : ℕ) (values : List ℤ) (places : List ℕ) (old new : List Bool) → col ≡ n → map Some values ≡ column_in objects n
    → All (λ place. place < length objects) places → IsMarkedBy (λ place. get_or values place (pos 0)) places old new → IsMarked (column_in objects col) places old new
marked_whole objects col n values places old new same is there h = λ j low not.
    let one = h j low not in (
      one.0,
      value_at (get_or places (j + 1) 0) (there (j + 1) 0 low) ∙ (ap Some one.1 ∙ sym (value_at (get_or places j 0) (there j 0 (omega (arith, low))))),
    )
  where
    many : length values ≡ length objects
    many = sym (length-map values Some) ∙ (ap length is ∙ length-map objects (λ o. cell o n))

    value_at : (place : ℕ) → place < length objects → get_or (column_in objects col) place None ≡ Some (get_or values place (pos 0))
    value_at place low =
        ap (λ k. get_or (column_in objects k) place None) same
        ∙ (ap (λ l. get_or l place None) (sym is) ∙ get_or-map Some values place (pos 0) None (omega (arith, low, many)))
