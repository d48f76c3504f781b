-- A child piece that absorbs one for a further chunk represents all of the chunks.
use Rattle.std.proofs.Common.{◌≡◌, ℕ, List, [], ◌∷◌, ◌++◌, Option, None, refl, sym, subst, ◌∙◌}
use Rattle.table_rules.specs.Objects.{Obj}
use Rattle.sky_rules.specs.Partition.{Partition}
use Rattle.source_rules.specs.Sources.{Source}
use Rattle.sql_bound.specs.declared.query.Bound.{Bound}
use Rattle.scan_core.specs.Pieces.{Absorbs, MayAbsorb}
use Rattle.answer_rules.specs.Keeps.{KeepsFirst}
use Rattle.answer_rules.specs.PieceLaws.{AreDisjoint}
use Rattle.answer_rules.specs.Pieces.{OfGroups, OfRows, PieceView}
use Rattle.answer_rules.specs.Ranks.{row_order}
use Rattle.partial_merge.specs.Joining.{MayAbsorbRows, AbsorbsRows}
use Rattle.partial_merge.proofs.Absorbing.{apart, together}
use Rattle.partial_merge.proofs.Standing.{same_some}
use Rattle.child_rules.specs.declared.bound.ChildBound.{ChildBound}
use Rattle.child_rules.specs.ChildBases.{ChildStands}
use Rattle.child_rules.specs.ChildPieces.{ChildFor}
use Rattle.child_rules.proofs.Joined.{child_piece_is_for_a_set, child_pieces_join}

-- pieces that represent a child query are of rows without a limit
of_rows : (g : Partition) (table : List Obj) (sources : List Source) (q p : Bound) (B B' : List ℕ) (mine other : PieceView) → ChildFor g table sources q B mine → ChildFor g table sources p B' other → MayAbsorbRows mine other
of_rows g table sources q p B B' (OfRows pushed rows) (OfRows limit others) h k = k.0 ∙ sym h.0
of_rows g table sources q p B B' (OfRows pushed rows) (OfGroups parts) h k = absurd k
of_rows g table sources q p B B' (OfGroups parts) other h k = absurd h

pub may_absorb : (mine other : PieceView) → MayAbsorb ChildStands mine other → MayAbsorbRows mine other
may_absorb mine other m =
    of_rows m.root.plan m.root.rows.objects m.root.table.sources m.this.query.bound m.that.query.bound m.chunks (m.chunk ∷ []) mine other m.this.piece m.that.piece

-- the rows of both represent both sets of chunks
joined : (g : Partition) (table : List Obj) (sources : List Source) (q : Bound) (B B' : List ℕ) (mine other new : PieceView) → AreDisjoint B B' → ChildFor g table sources q B mine → ChildFor g table sources q B' other → AbsorbsRows mine other new → ChildFor g table sources q (B ++ B') new
joined g table sources q B B' (OfRows pushed rows) (OfRows limit others) (OfRows now kept) d h k t =
    let keeps : KeepsFirst row_order None (rows ++ others) kept = subst (λ (p : Option ℕ). KeepsFirst row_order p (rows ++ others) kept) h.0 t.1 in
    let both = child_pieces_join g table sources q B B' rows others kept d (refl, h.1) (refl, k.1) keeps in
    (t.0 ∙ h.0, both.1)
joined g table sources q B B' (OfRows pushed rows) (OfRows limit others) (OfGroups parts) d h k t = absurd t
joined g table sources q B B' (OfRows pushed rows) (OfGroups parts) new d h k t = absurd k
joined g table sources q B B' (OfGroups parts) other new d h k t = absurd h

pub absorbs_rows : (old other new : PieceView) → AbsorbsRows old other new → Absorbs ChildStands old other new
absorbs_rows old other new t root q chunks chunk whole further more this that =
    let one : that.query ≡ this.query = same_some _ _ _ that.known this.known in
    record {
      base = this.base;
      query = this.query;
      known = this.known;
      piece = child_piece_is_for_a_set root.plan root.rows.objects root.table.sources this.query.bound (chunks ++ chunk ∷ []) whole new (together chunks chunk whole more)
          (joined root.plan root.rows.objects root.table.sources this.query.bound chunks (chunk ∷ []) old other new (apart chunks chunk further) this.piece
          (subst (λ (query : ChildBound). ChildFor root.plan root.rows.objects root.table.sources query.bound (chunk ∷ []) other) one that.piece) t);
    }
