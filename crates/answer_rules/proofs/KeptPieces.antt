-- A piece of rows stands still when it keeps less of them, and its rows are apart.
use Rattle.std.proofs.Common.{◌≡◌, ℕ, List, ◌++◌, Option, subst, arith, is_eq}
use Rattle.table_rules.specs.Objects.{Obj, IdsAscend}
use Rattle.sky_rules.specs.Partition.{Partition}
use Rattle.sql_bound.specs.declared.query.Shape.{Shape}
use Rattle.sql_bound.specs.declared.query.Shape.TheVariants.{Rows, Pairs, Groups}
use Rattle.answer_rules.specs.declared.rewritten.ChunkQuery.{ChunkQuery}
use Rattle.answer_rules.specs.declared.row.OutRow.{OutRow}
use Rattle.answer_rules.specs.Keeps.{AreApart, KeepsFirst}
use Rattle.answer_rules.specs.PieceLaws.{KeptStands, RowsAreApart}
use Rattle.answer_rules.specs.Pieces.{OfRows, OfGroups, PieceBy, RowsFor, chunk_lines, out_rows}
use Rattle.answer_rules.specs.Ranks.{row_order}
use Rattle.answer_rules.specs.Rows.{limit_of}
use Rattle.answer_rules.proofs.Apart.{found_apart}
use Rattle.answer_rules.proofs.KeptTwice.{keeps_again}
use Rattle.answer_rules.proofs.Orders.{count-append, count-permutation}
use Rattle.answer_rules.proofs.Totals.{row_total}

rows_kept : (g : Partition) (table : List Obj) (cq : ChunkQuery) (B : List ℕ) (pushed : Option ℕ) (rows kept : List OutRow) → KeepsFirst row_order pushed rows kept → RowsFor g table cq B (OfRows pushed rows) → RowsFor g table cq B (OfRows pushed kept)
rows_kept g table cq B pushed rows kept k h =
    (h.0, keeps_again row_order row_total (limit_of cq.limit) (out_rows g table cq B) rows kept h.1 (subst (λ (p : Option ℕ). KeepsFirst row_order p rows kept) h.0 k))

no_groups : {A : Type 0} (pushed : Option ℕ) (rows : List OutRow) (parts : List _) → OfRows pushed rows ≡ OfGroups parts → A
no_groups pushed rows parts e = absurd (cc e)

kept_by : (shape : Shape) (g : Partition) (table : List Obj) (cq : ChunkQuery) (B : List ℕ) (pushed : Option ℕ) (rows kept : List OutRow) → KeepsFirst row_order pushed rows kept → PieceBy shape g table cq B (OfRows pushed rows) → PieceBy shape g table cq B (OfRows pushed kept)
kept_by Rows g table cq B pushed rows kept k h = rows_kept g table cq B pushed rows kept k h
kept_by (Pairs limit) g table cq B pushed rows kept k h = rows_kept g table cq B pushed rows kept k h
kept_by (Groups keys) g table cq B pushed rows kept k h = no_groups pushed rows _ h

pub kept_stands : KeptStands
kept_stands g table cq B pushed rows kept k h = kept_by cq.shape g table cq B pushed rows kept k h

-- what is kept of rows that are apart is apart
pub apart_kept : (limit : Option ℕ) (full kept : List OutRow) → AreApart row_order full → KeepsFirst row_order limit full kept → AreApart row_order kept
apart_kept limit full kept a k x =
    omega (arith, a x, count-permutation (λ y. is_eq (row_order x y)) full (k.left_out ++ kept) k.all, count-append (λ y. is_eq (row_order x y)) k.left_out kept)

rows_apart : (g : Partition) (table : List Obj) (cq : ChunkQuery) (B : List ℕ) (pushed : Option ℕ) (rows : List OutRow) → IdsAscend table → RowsFor g table cq B (OfRows pushed rows) → AreApart row_order rows
rows_apart g table cq B pushed rows a h = apart_kept (limit_of cq.limit) (out_rows g table cq B) rows (found_apart g table cq.shape cq.conds B (chunk_lines cq) a) h.1

apart_by : (shape : Shape) (g : Partition) (table : List Obj) (cq : ChunkQuery) (B : List ℕ) (pushed : Option ℕ) (rows : List OutRow) → IdsAscend table → PieceBy shape g table cq B (OfRows pushed rows) → AreApart row_order rows
apart_by Rows g table cq B pushed rows a h = rows_apart g table cq B pushed rows a h
apart_by (Pairs limit) g table cq B pushed rows a h = rows_apart g table cq B pushed rows a h
apart_by (Groups keys) g table cq B pushed rows a h = no_groups pushed rows _ h

pub rows_are_apart : RowsAreApart
rows_are_apart g table cq B pushed rows a h = apart_by cq.shape g table cq B pushed rows a h
