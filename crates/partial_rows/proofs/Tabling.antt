-- Rows of a multiset, one after the other, are their table.
use Rattle.std.proofs.Common.{◌≡◌, ℕ, ◌+◌, ◌*◌, ◌<◌, ℤ, List, [], ◌∷◌, ◌++◌, map, length, get_or, take, Option, Some, None, refl, sym, ap, ◌∙◌}
use Rattle.std.specs.List.{All, AllByRecursion as Each, flat_map}
use Rattle.std.specs.Prelude.{slice_get, unwrap_or}
use Rattle.std.proofs.lemmas.Grind.{flat_map-append}
use Rattle.std.proofs.lemmas.List.{length-map, take_more}
use Rattle.std.proofs.lemmas.List.Elements.{All-from_recursion}
use Rattle.answer_rules.specs.declared.rewritten.MergeItem.{MergeItem}
use Rattle.answer_rules.specs.declared.rewritten.MergeItem.TheVariants.{Column, OfKeys, Count, Sum, Min, Max, Avg}
use Rattle.answer_rules.specs.declared.value.Value.{Value}
use Rattle.answer_rules.specs.Finish.{column_value}
use Rattle.answer_rules.specs.Rows.{shown}
use Rattle.partial_rows.specs.declared.ranked.Ranked.{Ranked}
use Rattle.partial_rows.specs.Rows.{row_of, row_values}
use Rattle.answer_table.specs.Tables.{IsShort, table_of}
use Rattle.answer_table.proofs.Tabling.{flat_long, flat_table, flat_short, map_map}

shown_short : (v : Option ℤ) → IsShort (shown v)
shown_short None = tt
shown_short (Some z) = tt

column_short : (cells : List (Option ℤ)) (i : MergeItem) → IsShort (column_value cells i)
column_short cells (Column n) = shown_short (unwrap_or (slice_get cells n) None)
column_short cells (OfKeys e) = tt
column_short cells (Count n) = tt
column_short cells (Sum n) = tt
column_short cells (Min n) = tt
column_short cells (Max n) = tt
column_short cells (Avg n count) = tt

pub columns_short : (cells : List (Option ℤ)) (items : List MergeItem) → Each IsShort (map (column_value cells) items)
columns_short cells [] = tt
columns_short cells (i ∷ items) = (column_short cells i, columns_short cells items)

pub rows_long : (cells : List (Option ℤ)) (items : List MergeItem) (rows : List Ranked) → length (flat_map (row_values cells items) rows) ≡ length rows * length items
rows_long cells items rows = flat_long (row_values cells items) (length items) (λ r. length-map items (column_value (row_of cells r).cells)) rows

pub rows_short : (cells : List (Option ℤ)) (items : List MergeItem) (rows : List Ranked) → All IsShort (flat_map (row_values cells items) rows)
rows_short cells items rows = All-from_recursion IsShort _ (flat_short (row_values cells items) (λ r. columns_short (row_of cells r).cells items) rows)

pub rows_table : (cells : List (Option ℤ)) (items : List MergeItem) (rows : List Ranked) → table_of (length rows) (length items) (flat_map (row_values cells items) rows) ≡ map (λ r. map (column_value r.cells) items) (map (row_of cells) rows)
rows_table cells items rows =
    flat_table (row_values cells items) (length items) (λ r. length-map items (column_value (row_of cells r).cells)) rows
    ∙ sym (map_map (row_of cells) (λ r. map (column_value r.cells) items) rows)

-- one row more
pub one_row_more : (cells : List (Option ℤ)) (items : List MergeItem) (rows : List Ranked) (i : ℕ) (d : Ranked) (old new : List Value) (own : List (Option ℤ)) → i < length rows → own ≡ (row_of cells (get_or rows i d)).cells → new ≡ old ++ map (column_value own) items → old ≡ flat_map (row_values cells items) (take i rows) → new ≡ flat_map (row_values cells items) (take (i + 1) rows)
one_row_more cells items rows i d old new own l e f g =
    f ∙ ap (λ vs. vs ++ map (column_value own) items) g ∙ ap (λ cs. flat_map (row_values cells items) (take i rows) ++ map (column_value cs) items) e
    ∙ ap (λ vs. flat_map (row_values cells items) (take i rows) ++ vs) (sym (append_none (row_values cells items (get_or rows i d))))
    ∙ sym (flat_map-append (row_values cells items) (take i rows) (get_or rows i d ∷ [])) ∙ ap (flat_map (row_values cells items)) (sym (take_more rows i d l))
  where
    append_none : (xs : List Value) → xs ++ [] ≡ xs
    append_none [] = refl
    append_none (x ∷ xs) = ap (λ l. x ∷ l) (append_none xs)
