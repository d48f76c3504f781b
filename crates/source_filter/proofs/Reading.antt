-- The columns of a source, read in a pair.
use Rattle.std.proofs.Common.{◌≡◌, ◌∙◌, refl, sym, ap, ℕ, ◌+◌, ◌-◌, ◌<◌, ◌≤◌, ◌==◌, arith, Bool, true, false, cond, [], length, get_or, None, Some}
use Rattle.std.specs.Prelude.{slice_get, unwrap_or}
use Rattle.std.proofs.lemmas.List.{get_or-map}
use Rattle.std.proofs.lemmas.Option.{unwrap_or-slice_get}
use Rattle.table_rules.specs.Objects.{Obj}
use Rattle.sql_bound.specs.declared.expr.BoundCol.{BoundCol}
use Rattle.source_rules.specs.Sources.{Source, source_cell}
use Rattle.source_row.specs.SourceColumns.{SourceParts, source_at}
use Rattle.value_rules.specs.Values.{cell_of}
use Rattle.child_rules.specs.Columns.{object_col, source_col}
use Rattle.child_rules.specs.Children.{child_pair, is_source_of}
use Rattle.child_rules.proofs.Reading.{columns_are_read, is_not}
use Rattle.source_filter.specs.declared.source_column.SourceColumn.{SourceColumn}
use Rattle.source_filter.specs.declared.source_column.SourceColumn.TheVariants.{Id, Object, Further}
use Rattle.source_filter.specs.Columns.{IsColumnOf, IsThere, number_of, value_in}

-- ---- which column it is

at_col : (second : Bool) (a b : ℕ) → a ≡ b → ◌≡◌ {A = BoundCol} (record { second = second; col = a }) (record { second = second; col = b })
at_col second a b e = ap {B = BoundCol} (λ n. record { second = second; col = n }) e

pub id_column : (col width : ℕ) → col ≡ 0 → IsColumnOf width Id (record { second = true; col = col })
id_column col width e = record { is = at_col true col 0 e; there = tt }

pub object_column : (col width : ℕ) → col ≡ 0 → IsColumnOf width Object (record { second = false; col = col })
object_column col width e = record { is = at_col false col 0 e; there = tt }

later_col : (k : ℕ) → source_col (k + 2) ≡ record { second = true; col = (k + 2) + 2 }
later_col k =
    ap (λ b. cond b (record { second = true; col = 0 }) (cond ((k + 2) == 1) (object_col 0) (record { second = true; col = (k + 2) + 2 }))) (is_not (k + 2) 0 (omega arith))
    ∙ ap (λ b. cond b (object_col 0) (record { second = true; col = (k + 2) + 2 })) (is_not (k + 2) 1 (omega arith))

pub further_column : (col width : ℕ) → 4 ≤ col → col - 4 < width → IsColumnOf width (Further (col - 4)) (record { second = true; col = col })
further_column col width low there = record {
  is = at_col true col (((col - 4) + 2) + 2) (omega (arith, low)) ∙ sym (later_col (col - 4));
  there = there;
}

-- ---- what stands there

pub further_value : (s : Source) (k : ℕ) → source_cell s (k + 2) ≡ get_or s.further k None
further_value s k =
    let place : (k + 2) - 2 ≡ k = omega arith in
    ap (λ b. cond b (Some s.id) (cond ((k + 2) == 1) (Some s.object) (unwrap_or (slice_get s.further ((k + 2) - 2)) None))) (is_not (k + 2) 0 (omega arith))
    ∙ ap (λ b. cond b (Some s.object) (unwrap_or (slice_get s.further ((k + 2) - 2)) None)) (is_not (k + 2) 1 (omega arith))
    ∙ unwrap_or-slice_get s.further ((k + 2) - 2) None ∙ ap (λ n. get_or s.further n None) place

source_reads : (p : SourceParts) (c : SourceColumn) (i : ℕ) → IsThere (length p.further) c → source_cell (source_at p i) (number_of c) ≡ value_in p c i
source_reads p Id i h = refl
source_reads p Object i h = refl
source_reads p (Further k) i h = further_value (source_at p i) k ∙ get_or-map (λ column. get_or column i None) p.further k [] None h

-- the value of a column in the pair of a source with its object
pub column_read : (p : SourceParts) (c : SourceColumn) (col : BoundCol) (i : ℕ) (o : Obj) → IsColumnOf (length p.further) c col → is_source_of o (source_at p i) ≡ true
    → cell_of (child_pair o (source_at p i)) col ≡ value_in p c i
column_read p c col i o h own =
    ap (cell_of (child_pair o (source_at p i))) h.is ∙ (columns_are_read o (source_at p i) own).source (number_of c) ∙ source_reads p c i h.there
