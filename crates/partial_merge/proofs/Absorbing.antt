-- A piece that takes in one for a further chunk stands for all of the chunks.
use Rattle.std.proofs.Common.{◌≡◌, ℕ, ◌==◌, Bool, true, false, ◌||◌, List, [], ◌∷◌, ◌++◌, refl, sym, ap, subst, ◌∙◌, eqb-true}
use Rattle.std.proofs.lemmas.List.Folds.{list_any-append}
use Rattle.scan_rules.specs.Numbers.{has}
use Rattle.scan_core.specs.Pieces.{Absorbs, IsOneMore, MayAbsorb}
use Rattle.scan_core.proofs.OneMore.{one_more_has}
use Rattle.answer_rules.specs.declared.rewritten.ChunkQuery.{ChunkQuery}
use Rattle.answer_rules.specs.Bases.{StandsFor}
use Rattle.answer_rules.specs.PieceLaws.{AreDisjoint, AreSame}
use Rattle.answer_rules.specs.Pieces.{PieceFor, PieceView}
use Rattle.answer_rules.proofs.Joining.{piece_is_for_a_set}
use Rattle.partial_merge.specs.Joining.{Joins, MayJoin}
use Rattle.partial_merge.proofs.Standing.{same_some}

one_chunk : (chunks : List ℕ) (chunk c : ℕ) → has chunks chunk ≡ false → has chunks c ≡ true → (b : Bool) → (chunk == c) ≡ b → (b || false) ≡ false
one_chunk chunks chunk c f h true e =
    let here : true ≡ false = sym h ∙ ap (has chunks) (sym (eqb-true chunk c e)) ∙ f in
    absurd (cc here)
one_chunk chunks chunk c f h false e = refl

-- a further chunk is none of the chunks
pub apart : (chunks : List ℕ) (chunk : ℕ) → has chunks chunk ≡ false → AreDisjoint chunks (chunk ∷ [])
apart chunks chunk f c h = one_chunk chunks chunk c f h (chunk == c) refl

or_nothing : (a b : Bool) → (a || (b || false)) ≡ (a || b)
or_nothing true b = refl
or_nothing false true = refl
or_nothing false false = refl

-- the chunks and the further one are all of them
pub together : (chunks : List ℕ) (chunk : ℕ) (whole : List ℕ) → IsOneMore chunks chunk whole → AreSame (chunks ++ chunk ∷ []) whole
together chunks chunk whole m c =
    list_any-append (λ other. other == c) chunks (chunk ∷ []) ∙ or_nothing (has chunks c) (chunk == c) ∙ sym (one_more_has chunks chunk whole m c)

-- a piece of a board may join one for a further chunk
pub may_join : (mine other : PieceView) → MayAbsorb StandsFor mine other → MayJoin mine other
may_join mine other m = record {
  base = m.root;
  q = m.q;
  chunks = m.chunks;
  others = m.chunk ∷ [];
  this = m.this;
  that = m.that;
  apart = apart m.chunks m.chunk m.further;
}

-- what joins absorbs
pub joins_absorbs : (old other new : PieceView) → Joins old other new → Absorbs StandsFor old other new
joins_absorbs old other new j root q chunks chunk whole further more this that =
    let one : that.query ≡ this.query = same_some _ _ _ that.known this.known in
    record {
      base = this.base;
      query = this.query;
      known = this.known;
      piece = piece_is_for_a_set root.plan root.rows.objects this.query (chunks ++ chunk ∷ []) whole new (together chunks chunk whole more)
          (j root.plan root.rows.objects this.query chunks (chunk ∷ []) (apart chunks chunk further) this.piece
          (subst (λ (cq : ChunkQuery). PieceFor root.plan root.rows.objects cq (chunk ∷ []) other) one that.piece));
    }
