-- A piece of the rows of a chunk that meet the conditions stands for the chunk.
use Rattle.std.proofs.Common.{◌≡◌, ◌∙◌, refl, sym, ap, subst, ℕ, ◌<◌, false, ◌&&◌, List, [], ◌∷◌, filter, map}
use Rattle.std.specs.Prelude.{All}
use Rattle.std.proofs.lemmas.Simd.{map-map}
use Rattle.table_rules.specs.Objects.{Obj, IsRow}
use Rattle.sky_rules.specs.Bounds.{in_chunk}
use Rattle.sky_rules.specs.Limits.{IsSky}
use Rattle.sky_rules.specs.Partition.{Partition, chunk_count}
use Rattle.sky_row.specs.Columns.{objects_at}
use Rattle.sql_bound.specs.declared.query.Shape.{Shape}
use Rattle.sql_bound.specs.declared.query.Shape.TheVariants.{Rows, Pairs, Groups}
use Rattle.value_rules.specs.Sound.{is_paired}
use Rattle.value_rules.specs.Truth.{meets}
use Rattle.value_rules.specs.Values.{Pick, row}
use Rattle.answer_rules.specs.declared.rewritten.ChunkQuery.{ChunkQuery}
use Rattle.answer_rules.specs.Coverage.{AreInTheSky}
use Rattle.answer_rules.specs.Keeps.{KeepsFirst}
use Rattle.answer_rules.specs.Parts.{partials_of}
use Rattle.answer_rules.specs.Picks.{found, picks}
use Rattle.answer_rules.specs.Pieces.{PieceView, OfRows, OfGroups, PieceBy, PieceFor, RowsFor, chunk_lines}
use Rattle.answer_rules.specs.Ranks.{row_order}
use Rattle.answer_rules.specs.Rows.{limit_of, out_row}
use Rattle.answer_rules.proofs.Covering.{found_in_one}
use Rattle.chunk_row_scan.specs.Lines.{IsOfRowsOver}
use Rattle.chunk_scan.specs.Lines.{IsPieceBy, IsPieceOver}
use Rattle.chunk_filter.specs.Selection.{selection}
use Rattle.chunk_filter.proofs.Found.{found_rows}

-- a query that is no join looks at the rows
plain_picks : (shape : Shape) (table : List Obj) → is_paired shape ≡ false → picks shape table ≡ map row table
plain_picks Rows table single = refl
plain_picks (Pairs limit) table single = absurd cc
plain_picks (Groups keys) table single = refl

of_rows : (g : Partition) (table : List Obj) (cq : ChunkQuery) (c : ℕ) (objects : List Obj) (view : PieceView)
    → found g table cq.shape cq.conds (c ∷ []) ≡ map row objects → IsOfRowsOver cq objects view → RowsFor g table cq (c ∷ []) view
of_rows g table cq c objects (OfRows pushed rows) is h = (
  h.0,
  subst (λ l. KeepsFirst row_order (limit_of cq.limit) l rows)
      (sym (ap (map (out_row (chunk_lines cq))) is ∙ map-map (out_row (chunk_lines cq)) row objects)) h.1,
)
of_rows g table cq c objects (OfGroups parts) is h = absurd h

by_shape : (shape : Shape) (g : Partition) (table : List Obj) (cq : ChunkQuery) (c : ℕ) (objects : List Obj) (view : PieceView)
    → found g table cq.shape cq.conds (c ∷ []) ≡ map row objects → IsPieceBy shape cq objects view → PieceBy shape g table cq (c ∷ []) view
by_shape Rows g table cq c objects view is h = of_rows g table cq c objects view is h
by_shape (Pairs limit) g table cq c objects view is h = absurd h
by_shape (Groups keys) g table cq c objects view is h = h ∙ ap (λ ps. OfGroups (partials_of keys cq.items ps)) (sym is)

-- the piece of the rows of the block that meet the conditions
pub scanned : (g : Partition) (table : List Obj) (cq : ChunkQuery) (c : ℕ) (block : List Obj) (places : List ℕ) (view : PieceView) → IsSky g → AreInTheSky table
    → c < chunk_count g → is_paired cq.shape ≡ false → block ≡ filter (λ o. in_chunk g c o.at) table → places ≡ selection cq.conds block
    → IsPieceOver cq (objects_at block places) view → PieceFor g table cq (c ∷ []) view
scanned g table cq c block places view sky admissible there single is are h =
    by_shape cq.shape g table cq c (objects_at block places) view
    (found_in_one g table cq.shape cq.conds c sky admissible there
    ∙ (ap (filter (λ (p : Pick). meets cq.conds p && in_chunk g c p.first.at)) (plain_picks cq.shape table single)
    ∙ (found_rows g table cq.conds c block is ∙ ap (λ ps. map row (objects_at block ps)) (sym are)))) h

-- rows lie in the sky
pub in_the_sky : (table : List Obj) → All IsRow table → AreInTheSky table
in_the_sky table rows = λ k d low. (rows k d low).at
