-- The numbers of a key column, one for each row of a block.
use Rattle.std.proofs.Common.{◌≡◌, ◌∙◌, ℕ, ◌<◌, ℤ, pos, sym, refl, ap, Bool, true, false, not, ◌&&◌, ◌||◌, if◌then◌else◌, List, length, get_or, map}
use Rattle.std.specs.Prelude.{IsTrue}
use Rattle.std.specs.List.{range_with_len}
use Rattle.std.specs.Option.{option_and_then}
use Rattle.std.proofs.lemmas.List.{map-id}
use Rattle.std.proofs.lemmas.List.FromFn.{fill_by_all}
use Rattle.table_rules.specs.Objects.{Obj, cell}
use Rattle.sky_row.specs.Columns.{column_in}
use Rattle.sql_bound.specs.declared.expr.BoundCol.{BoundCol}
use Rattle.value_rules.specs.Sound.{has_col}
use Rattle.value_rules.specs.Values.{cell_of, row}
use Rattle.column_vectors.specs.PickedColumns.{numbers_at}

not_second : (there second : Bool) → (there && (not second || false)) ≡ true → second ≡ false
not_second there false h = refl
not_second true true h = absurd (cc h)
not_second false true h = absurd (cc h)

-- the values of rows in a key column are those in the column of its number
pub key_column : (columns : ℕ) (k : BoundCol) (objects : List Obj) → IsTrue (has_col columns false k) → column_in objects k.col ≡ map (λ o. cell_of (row o) k) objects
key_column columns k objects there =
    sym (ap (λ (second : Bool). map (λ o. if second then option_and_then (λ (u : Obj). cell u k.col) (row o).second else cell o k.col) objects) (not_second _ k.second there))

-- row numbers each of which is its index are those of all rows
pub all_rows : (places : List ℕ) (count : ℕ) → length places ≡ count → ((k : ℕ) → k < count → get_or places k 0 ≡ k) → places ≡ range_with_len 0 count
all_rows places count long each = fill_by_all (λ k. k) places count 0 long each ∙ map-id (range_with_len 0 count)

-- the numbers of all rows are the column
pub all_numbers : (numbers : List ℤ) (places : List ℕ) → places ≡ range_with_len 0 (length numbers) → numbers ≡ numbers_at numbers places
all_numbers numbers places is =
    fill_by_all (λ place. get_or numbers place (pos 0)) numbers (length numbers) (pos 0) refl (λ k low. refl)
    ∙ ap (numbers_at numbers) (sym is)
