-- What the steps of a join put into the piece.
use Rattle.std.proofs.Common.{◌≡◌, ℕ, List, [], ◌∷◌, ◌++◌, append_assoc, Option, refl, sym, subst, ◌∙◌, IsPermutation}
use Rattle.std.proofs.lemmas.List.{append-nil, map-append}
use Rattle.std.proofs.lemmas.List.Sorted.{IsPermutation-refl, IsPermutation-append_right, IsPermutation-map}
use Rattle.value_rules.specs.Values.{Pick}
use Rattle.answer_rules.specs.Keeps.{KeepsFirst}
use Rattle.answer_rules.specs.Pieces.{PieceView, OfRows, OfGroups, chunk_lines}
use Rattle.answer_rules.specs.Ranks.{row_order}
use Rattle.answer_rules.specs.Rows.{out_row}
use Rattle.answer_rules.specs.declared.rewritten.ChunkQuery.{ChunkQuery}
use Rattle.answer_rules.specs.declared.row.OutRow.{OutRow}
use Rattle.answer_rules.proofs.Keeping.{keeps_all, keeps_joined, keeps_reordered}
use Rattle.answer_rules.proofs.KeptTwice.{keeps_again}
use Rattle.answer_rules.proofs.Totals.{row_total}
use Rattle.partial_merge.specs.Joining.{IsOfRows, TakesRow}
use Rattle.near_join.specs.Gains.{Gains, lines_for}

-- ---- pieces

-- a piece that gained is one of rows
pub gained_rows : (cq : ChunkQuery) (ps : List Pick) (old new : PieceView) → Gains cq ps old new → IsOfRows new
gained_rows cq ps (OfRows l a) (OfRows m b) g = tt
gained_rows cq ps (OfRows l a) (OfGroups b) g = absurd g
gained_rows cq ps (OfGroups a) new g = absurd g

-- rows that are kept after another step are kept after both
kept_joined : (l : Option ℕ) (a more rest b c : List OutRow) → KeepsFirst row_order l (a ++ more) b → KeepsFirst row_order l (b ++ rest) c → KeepsFirst row_order l (a ++ (more ++ rest)) c
kept_joined l a more rest b c h k =
    let both : KeepsFirst row_order l ((a ++ more) ++ rest) (b ++ rest) =
    keeps_joined row_order l (a ++ more) rest b rest h (keeps_all row_order l rest rest (IsPermutation-refl rest)) in
    subst (λ rows. KeepsFirst row_order l rows c) (append_assoc a more rest) (keeps_again row_order row_total l ((a ++ more) ++ rest) (b ++ rest) c both k)

-- one step after another
pub gains_joined : (cq : ChunkQuery) (ps qs : List Pick) (old mid new : PieceView) → Gains cq ps old mid → Gains cq qs mid new → Gains cq (ps ++ qs) old new
gains_joined cq ps qs (OfRows l a) (OfRows m b) (OfRows n c) g h =
    let k : KeepsFirst row_order l (b ++ lines_for cq qs) c = subst (λ p. KeepsFirst row_order p (b ++ lines_for cq qs) c) g.0 h.1 in
    (h.0 ∙ g.0, subst (λ rows. KeepsFirst row_order l (a ++ rows) c) (sym (map-append (out_row (chunk_lines cq)) ps qs)) (kept_joined l a (lines_for cq ps) (lines_for cq qs) b c g.1 k))
gains_joined cq ps qs (OfRows l a) (OfRows m b) (OfGroups c) g h = absurd h
gains_joined cq ps qs (OfRows l a) (OfGroups b) new g h = absurd g
gains_joined cq ps qs (OfGroups a) mid new g h = absurd g

-- a step that finds nothing
pub gains_nothing : (cq : ChunkQuery) (old : PieceView) → IsOfRows old → Gains cq [] old old
gains_nothing cq (OfRows l a) is = (refl, subst (λ rows. KeepsFirst row_order l rows a) (sym (append-nil a)) (keeps_all row_order l a a (IsPermutation-refl a)))
gains_nothing cq (OfGroups a) is = absurd is

-- a step that finds the same in another order
pub gains_moved : (cq : ChunkQuery) (ps qs : List Pick) (old new : PieceView) → IsPermutation ps qs → Gains cq ps old new → Gains cq qs old new
gains_moved cq ps qs (OfRows l a) (OfRows m b) p g = (
  g.0,
  keeps_reordered row_order l (a ++ lines_for cq ps) (a ++ lines_for cq qs) b b
      (IsPermutation-append_right a (lines_for cq ps) (lines_for cq qs) (IsPermutation-map (out_row (chunk_lines cq)) ps qs p)) (IsPermutation-refl b) g.1,
)
gains_moved cq ps qs (OfRows l a) (OfGroups b) p g = absurd g
gains_moved cq ps qs (OfGroups a) new p g = absurd g

-- a step that puts one pair
pub gains_one : (cq : ChunkQuery) (p : Pick) (row : OutRow) (old new : PieceView) → row ≡ out_row (chunk_lines cq) p → TakesRow old row new → Gains cq (p ∷ []) old new
gains_one cq p row (OfRows l a) (OfRows m b) e t = (t.0, subst (λ r. KeepsFirst row_order l (a ++ r ∷ []) b) e t.1)
gains_one cq p row (OfRows l a) (OfGroups b) e t = absurd t
gains_one cq p row (OfGroups a) new e t = absurd t
