-- What pieces stand for when they are joined, and what may be finished.
use Rattle.std.proofs.Common.{◌≡◌, ℕ, ◌++◌, List, [], ◌∷◌, map, Option, Some, sym, ap, subst, ◌∙◌, arith}
use Rattle.table_rules.specs.Objects.{Obj}
use Rattle.sky_rules.specs.Partition.{Partition}
use Rattle.sql_bound.specs.declared.query.Shape.{Shape}
use Rattle.sql_bound.specs.declared.query.Shape.TheVariants.{Rows, Pairs, Groups}
use Rattle.answer_rules.specs.declared.rewritten.ChunkQuery.{ChunkQuery}
use Rattle.answer_rules.specs.declared.rewritten.MergePlan.{MergePlan}
use Rattle.answer_rules.specs.declared.row.OutRow.{OutRow}
use Rattle.answer_rules.specs.Keeps.{AreApart, KeepsFirst}
use Rattle.answer_rules.specs.Pieces.{PieceView, OfRows, OfGroups, PieceBy, PieceFor}
use Rattle.answer_rules.specs.Ranks.{row_order}
use Rattle.answer_rules.specs.Rows.{limit_of}
use Rattle.answer_rules.proofs.JoinedAlone.{joins_alone}
use Rattle.answer_rules.proofs.Smallness.{join_is_small}
use Rattle.answer_rules.proofs.KeptPieces.{kept_stands, rows_are_apart}
use Rattle.answer_rules.proofs.JoinedAlone.{AreOf, are_of}
use Rattle.answer_rules.specs.declared.rewritten.ChunkItem.{ChunkItem}
use Rattle.answer_rules.specs.Parts.{way_of}
use Rattle.answer_rules.specs.Picks.{found}
use Rattle.partial_merge.specs.declared.contents.Contents.{Contents}
use Rattle.partial_merge.specs.declared.contents.Contents.TheVariants as contents
use Rattle.partial_groups.specs.Groups.{Gathered, HaveWays, MayGather}
use Rattle.partial_merge.specs.Contents.{IsCombined, MayCombine, rows_of, view_in}
use Rattle.partial_merge.specs.Joining.{AbsorbsRows, IsOfRows, Joins, MayAbsorbRows, MayFinish, MayJoin}

pushed_by : (shape : Shape) (g : Partition) (table : List Obj) (cq : ChunkQuery) (B : List ℕ) (pushed : Option ℕ) (rows : List OutRow) → PieceBy shape g table cq B (OfRows pushed rows) → pushed ≡ limit_of cq.limit
pushed_by Rows g table cq B pushed rows h = h.0
pushed_by (Pairs limit) g table cq B pushed rows h = h.0
pushed_by (Groups keys) g table cq B pushed rows h = absurd (cc h)

-- an option has one value
pub same_some : {X : Type 0} (a b : X) (o : Option X) → o ≡ Some a → o ≡ Some b → a ≡ b
same_some a b o e f = cc (e, f)

-- pieces of rows that may be joined have one limit
pub one_limit : (pushed pushed' : Option ℕ) (rows rows' : List OutRow) → MayJoin (OfRows pushed rows) (OfRows pushed' rows') → pushed' ≡ pushed
one_limit pushed pushed' rows rows' m =
    let one : m.that.query ≡ m.this.query = same_some _ _ _ m.that.known m.this.known in
    pushed_by m.that.query.shape m.base.plan m.base.rows.objects m.that.query m.others pushed' rows' m.that.piece
    ∙ ap (λ (cq : ChunkQuery). limit_of cq.limit) one
    ∙ sym (pushed_by m.this.query.shape m.base.plan m.base.rows.objects m.this.query m.chunks pushed rows m.this.piece)

-- what is kept of both stands for both
pub rows_join : (pushed pushed' : Option ℕ) (rows rows' kept : List OutRow) → KeepsFirst row_order pushed (rows ++ rows') kept → Joins (OfRows pushed rows) (OfRows pushed' rows') (OfRows pushed kept)
rows_join pushed pushed' rows rows' kept k g table cq chunks others apart this that =
    kept_stands g table cq (chunks ++ others) pushed (rows ++ rows') kept k (joins_alone g table cq chunks others (OfRows pushed rows) (OfRows pushed' rows') apart this that)

-- the rows of a piece that may be finished are apart
pub may_finish_apart : (merge : MergePlan) (pushed : Option ℕ) (rows : List OutRow) → MayFinish merge (OfRows pushed rows) → AreApart row_order rows
may_finish_apart merge pushed rows m = rows_are_apart m.base.plan m.base.rows.objects _ m.chunks pushed rows m.fits.rows.ascend m.stands

-- ---- groups

ways_of : (items : List ChunkItem) (gs : Gathered) → AreOf items gs → HaveWays (map way_of items) gs
ways_of items [] h = tt
ways_of items (g ∷ gs) h = (h.0, ways_of items gs h.1)

same_groups : (gs hs : Gathered) → OfGroups gs ≡ OfGroups hs → hs ≡ gs
same_groups gs hs e = cc (e)

-- the groups of a piece have the ways of its aggregates
groups_by : (shape : Shape) (g : Partition) (table : List Obj) (cq : ChunkQuery) (B : List ℕ) (gs : Gathered) → PieceBy shape g table cq B (OfGroups gs) → HaveWays (map way_of cq.items) gs
groups_by Rows g table cq B gs h = absurd h
groups_by (Pairs limit) g table cq B gs h = absurd h
groups_by (Groups keys) g table cq B gs h =
    subst (HaveWays (map way_of cq.items)) (same_groups gs _ h) (ways_of cq.items _ (are_of keys cq.items (found g table cq.shape cq.conds B)))

-- pieces of groups that may be joined are of the same ways
pub one_kind : (mine theirs : Gathered) → MayJoin (OfGroups mine) (OfGroups theirs) → MayGather mine theirs
one_kind mine theirs m =
    let one : m.that.query ≡ m.this.query = same_some _ _ _ m.that.known m.this.known in
    record {
      own = map way_of m.this.query.items;
      this = groups_by m.this.query.shape m.base.plan m.base.rows.objects m.this.query m.chunks mine m.this.piece;
      that = subst (λ (cq : ChunkQuery). HaveWays (map way_of cq.items) theirs) one (groups_by m.that.query.shape m.base.plan m.base.rows.objects m.that.query m.others theirs m.that.piece);
      few = omega (
        arith,
        m.this.base.rows.few,
        join_is_small m.base.plan m.base.rows.objects m.this.query m.chunks m.others mine theirs m.apart m.this.piece
            (subst (λ (cq : ChunkQuery). PieceFor m.base.plan m.base.rows.objects cq m.others (OfGroups theirs)) one m.that.piece),
      );
    }

-- no piece of rows may be joined with one of groups
not_both : (shape : Shape) (g : Partition) (table : List Obj) (cq : ChunkQuery) (B B' : List ℕ) (pushed : Option ℕ) (rows : List OutRow) (gs : Gathered) → PieceBy shape g table cq B (OfRows pushed rows) → PieceBy shape g table cq B' (OfGroups gs) → ⊥
not_both Rows g table cq B B' pushed rows gs h k = k
not_both (Pairs limit) g table cq B B' pushed rows gs h k = k
not_both (Groups keys) g table cq B B' pushed rows gs h k = absurd (cc h)

pub not_mixed : (pushed : Option ℕ) (rows : List OutRow) (gs : Gathered) → MayJoin (OfRows pushed rows) (OfGroups gs) → ⊥
not_mixed pushed rows gs m =
    let one : m.that.query ≡ m.this.query = same_some _ _ _ m.that.known m.this.known in
    not_both m.this.query.shape m.base.plan m.base.rows.objects m.this.query m.chunks m.others pushed rows gs m.this.piece
    (subst (λ (cq : ChunkQuery). PieceFor m.base.plan m.base.rows.objects cq m.others (OfGroups gs)) one m.that.piece)

pub not_mixed_up : (pushed : Option ℕ) (rows : List OutRow) (gs : Gathered) → MayJoin (OfGroups gs) (OfRows pushed rows) → ⊥
not_mixed_up pushed rows gs m =
    let one : m.that.query ≡ m.this.query = same_some _ _ _ m.that.known m.this.known in
    not_both m.this.query.shape m.base.plan m.base.rows.objects m.this.query m.others m.chunks pushed rows gs
    (subst (λ (cq : ChunkQuery). PieceFor m.base.plan m.base.rows.objects cq m.others (OfRows pushed rows)) one m.that.piece) m.this.piece

-- ---- whatever they hold

pub may_combine : (mine theirs : Contents) → MayJoin (view_in mine) (view_in theirs) → MayCombine mine theirs
may_combine (contents.Rows mine) (contents.Rows theirs) m = one_limit mine.pushed theirs.pushed mine.rows theirs.rows m
may_combine (contents.Rows mine) (contents.Groups theirs) m = not_mixed mine.pushed mine.rows theirs m
may_combine (contents.Groups mine) (contents.Rows theirs) m = not_mixed_up theirs.pushed theirs.rows mine m
may_combine (contents.Groups mine) (contents.Groups theirs) m = one_kind mine theirs m

-- what was combined represents both
pub combined_joins : (mine theirs new : Contents) → IsCombined mine theirs new → Joins (view_in mine) (view_in theirs) (view_in new)
combined_joins (contents.Rows mine) (contents.Rows theirs) (contents.Rows new) t =
    subst (λ p. Joins (OfRows mine.pushed mine.rows) (OfRows theirs.pushed theirs.rows) (OfRows p new.rows)) (sym t.0) (rows_join mine.pushed theirs.pushed mine.rows theirs.rows new.rows t.1)
combined_joins (contents.Rows mine) (contents.Rows theirs) (contents.Groups new) t = absurd t
combined_joins (contents.Rows mine) (contents.Groups theirs) new t = absurd t
combined_joins (contents.Groups mine) (contents.Rows theirs) new t = absurd t
combined_joins (contents.Groups mine) (contents.Groups theirs) (contents.Rows new) t = absurd t
combined_joins (contents.Groups mine) (contents.Groups theirs) (contents.Groups new) t = λ g table cq chunks others apart this that.
    subst (λ gs. PieceFor g table cq (chunks ++ others) (OfGroups gs)) (sym t) (joins_alone g table cq chunks others (OfGroups mine) (OfGroups theirs) apart this that)

-- the rows of a piece that may be finished are apart
pub rows_apart : (merge : MergePlan) (view : PieceView) → IsOfRows view → MayFinish merge view → AreApart row_order (rows_of view)
rows_apart merge (OfRows pushed rows) is m = may_finish_apart merge pushed rows m
rows_apart merge (OfGroups gs) is m = absurd is

-- pieces of rows with one limit may be combined
pub may_combine_rows : (mine theirs : Contents) → MayAbsorbRows (view_in mine) (view_in theirs) → MayCombine mine theirs
may_combine_rows (contents.Rows mine) (contents.Rows theirs) m = m
may_combine_rows (contents.Rows mine) (contents.Groups theirs) m = absurd m
may_combine_rows (contents.Groups mine) theirs m = absurd m

-- what was combined are the rows of both
pub combined_rows : (mine theirs new : Contents) → MayAbsorbRows (view_in mine) (view_in theirs) → IsCombined mine theirs new → AbsorbsRows (view_in mine) (view_in theirs) (view_in new)
combined_rows (contents.Rows mine) (contents.Rows theirs) (contents.Rows new) m t = t
combined_rows (contents.Rows mine) (contents.Rows theirs) (contents.Groups new) m t = absurd t
combined_rows (contents.Rows mine) (contents.Groups theirs) new m t = absurd m
combined_rows (contents.Groups mine) theirs new m t = absurd m
