-- The piece that the engine makes of a query on a chunk: the chunk query is found by the number of its query.
use denote.Ref.{Bor}
use mathlib.Core.Logic.{◌⊎◌, inl, inr}
use lib.Dec.{ltb}
use Rattle.std.proofs.Common.{◌≡◌, ◌∙◌, sym, ap, refl, subst, ℕ, zero, suc, ◌+◌, ◌<◌, ◌≤◌, ◌==◌, arith}
use Rattle.std.proofs.Common.{Bool, true, false, cond, List, [], ◌∷◌, AllPairs, length, get_or, eqb-true, ne_eqb, find}
use Rattle.std.proofs.Common.{Ok, Err, Result, IfOk, option_map, Some, is_some}
use Rattle.std.specs.List.Sorted.{IsPartitionedBy, IsPartitionPoint}
use Rattle.std.proofs.lemmas.Bool.{cases_lt, ltb-true, ltb-false}
use Rattle.std.proofs.lemmas.List.Sorted.{IsPartitionedBy-ltb}
use Rattle.table_rules.specs.Objects.{Catalogue}
use Rattle.sky_io.specs.declared.Memory.{Memory}
use Rattle.sky_rules.specs.Partition.{Partition}
use Rattle.answer_rules.specs.Bases.{Asks, StandsFor, query_at}
use Rattle.answer_rules.specs.Pieces.{PieceFor, PieceView}
use Rattle.answer_rules.specs.SoundChunks.{IsSoundChunk}
use Rattle.answer_rules.specs.declared.rewritten.ChunkQuery.{ChunkQuery}
use Rattle.session_rules.proofs.Numbers.{holds_at, same_entry}
use Rattle.czar.specs.Attached.{base_over, numbered}
use Rattle.czar.specs.Running.{IsOpen}
use Rattle.czar.proofs.Attaching.{shown_at, shown_len}

-- ---- the search by number

-- the numbers ascend, so that a bisection may go over them
pub parted : (es : List (ℕ × Bor ChunkQuery)) (q : ℕ) → AllPairs (λ (e f : ℕ × ChunkQuery). e.0 < f.0) (numbered es)
    → IsPartitionedBy (λ e. ltb e.0 q) es
parted es q ascend = IsPartitionedBy-ltb (λ e. e.0) es q (λ i j d le within. by i j d le within (cases_lt i j))
  where
    by : (i j : ℕ) (d : ℕ × Bor ChunkQuery) → i ≤ j → j < length es → (i < j) ⊎ (j ≤ i) → (get_or es i d).0 ≤ (get_or es j d).0
    by i j d le within (inl before) =
        let x : ℕ × ChunkQuery = (d.0, d.1.now) in
        let less = ascend i j x before (omega (arith, within, shown_len es)) in
        let low = ap (λ (e : ℕ × ChunkQuery). e.0) (shown_at es i d x (omega (arith, before, within))) in
        let high = ap (λ (e : ℕ × ChunkQuery). e.0) (shown_at es j d x within) in
        omega (arith, less, low, high)
    by i j d le within (inr after) =
        let same : i ≡ j = omega (arith, le, after) in
        let equal = ap (λ n. (get_or es n d).0) same in
        omega (arith, equal)

-- What a bisection finds: the entry with the number.
pub record Found (es : List (ℕ × Bor ChunkQuery)) (q place : ℕ) : Type 0 where
  pub low : place < length es
  pub number : (d : ℕ × Bor ChunkQuery) → (get_or es place d).0 ≡ q
  pub is : (d : ℕ × Bor ChunkQuery) → query_at (numbered es) q ≡ Some (get_or es place d).1.now

-- the search goes by the first number
first_by : (e : ℕ × Bor ChunkQuery) (es : List (ℕ × Bor ChunkQuery)) (q : ℕ) (b : Bool) → (e.0 == q) ≡ b
    → query_at (numbered (e ∷ es)) q ≡ option_map (λ x. x.1) (cond b (Some (e.0, e.1.now)) (find (λ x. x.0 == q) (numbered es)))
first_by e es q b is = ap (λ t. option_map (λ x. x.1) (cond t (Some (e.0, e.1.now)) (find (λ x. x.0 == q) (numbered es)))) is

-- the entries after the first ascend too
rest_ascends : (e : ℕ × Bor ChunkQuery) (es : List (ℕ × Bor ChunkQuery))
    → AllPairs (λ (a b : ℕ × ChunkQuery). a.0 < b.0) (numbered (e ∷ es)) → AllPairs (λ (a b : ℕ × ChunkQuery). a.0 < b.0) (numbered es)
rest_ascends e es ascend i j d before low = ascend (suc i) (suc j) d (omega (arith, before)) (omega (arith, low))

none_there : false ≡ true → ⊥
none_there e = absurd (cc)

pub found : (es : List (ℕ × Bor ChunkQuery)) (q place : ℕ) → AllPairs (λ (e f : ℕ × ChunkQuery). e.0 < f.0) (numbered es)
    → is_some (query_at (numbered es) q) ≡ true → IsPartitionPoint (λ e. ltb e.0 q ≡ true) (λ e. ltb e.0 q ≡ false) es place → Found es q place
found [] q place ascend known point = absurd (none_there known)
found (e ∷ es) q (suc place) ascend known point =
    let below = ltb-true e.0 q (point.0 0 e (omega arith) (omega arith)) in
    let not_here : (e.0 == q) ≡ false = ne_eqb e.0 q (λ same. absurd (omega (arith, same, below))) in
    let later = found es q place (rest_ascends e es ascend) (ap is_some (sym (first_by e es q false not_here)) ∙ known)
    (λ k d least most. point.0 (suc k) d (omega arith) (omega (arith, most)), λ k d least most. point.1 (suc k) d (omega (arith, least)) (omega (arith, most))) in
    let low = later.low in
    record {
      low = omega (arith, low);
      number = later.number;
      is = λ d. first_by e es q false not_here ∙ later.is d;
    }
found (e ∷ es) q zero ascend known point =
    by (e.0 == q) refl (λ later. found es q 0 (rest_ascends e es ascend) later
    (λ k d least most. absurd (omega (arith, most)), λ k d least most. point.1 (suc k) d (omega arith) (omega (arith, most))))
  where
    by : (b : Bool) → (e.0 == q) ≡ b → (is_some (query_at (numbered es) q) ≡ true → Found es q 0) → Found (e ∷ es) q 0
    by true is rest = record {
      low = omega arith;
      number = λ d. eqb-true e.0 q is;
      is = λ d. first_by e es q true is;
    }
    by false is rest =
        let later = rest (ap is_some (sym (first_by e es q false is)) ∙ known) in
        let above = ltb-false e.0 q (point.1 0 e (omega arith) (omega arith)) in
        let x : ℕ × ChunkQuery = (e.0, e.1.now) in
        let some = later.low in
        let less = ascend 0 1 x (omega arith) (omega (arith, some, shown_len es)) in
        let next = ap (λ (f : ℕ × ChunkQuery). f.0) (shown_at es 0 e x some) in
        let number = later.number e in
        absurd (omega (arith, above, less, next, number))

-- ---- what the base asks

-- the chunk may be scanned for it
pub open_for : (g : Partition) (c : Catalogue) (es : List (ℕ × Bor ChunkQuery)) (q chunk : ℕ) (cq : ChunkQuery) (a : Asks (base_over g c es) q chunk)
    → query_at (numbered es) q ≡ Some cq → IsOpen g c cq.shape chunk
open_for g c es q chunk cq a is =
    subst (λ (x : ChunkQuery). IsOpen g c x.shape chunk) (same_entry a.query cq (sym a.known ∙ is))
    (record { there = a.there; filled = a.filled; reach = a.reach })

pub sound_for : (g : Partition) (c : Catalogue) (es : List (ℕ × Bor ChunkQuery)) (q chunk : ℕ) (cq : ChunkQuery) (a : Asks (base_over g c es) q chunk)
    → query_at (numbered es) q ≡ Some cq → IsSoundChunk (4 + length c.names) cq
sound_for g c es q chunk cq a is = holds_at (IsSoundChunk (4 + length c.names)) (numbered es) q cq is a.base.sound

-- and its piece stands for the query there
pub stands : {V : Type 0} (g : Partition) (c : Catalogue) (es : List (ℕ × Bor ChunkQuery)) (q chunk : ℕ) (cq : ChunkQuery) (view : V → PieceView) (r : Result V Memory)
    (a : Asks (base_over g c es) q chunk) → query_at (numbered es) q ≡ Some cq → IfOk r (λ v. PieceFor g c.objects cq (chunk ∷ []) (view v))
    → IfOk r (λ v. StandsFor (base_over g c es) q (chunk ∷ []) (view v))
stands g c es q chunk cq view (Ok v) a is piece = record { base = a.base; query = cq; known = is; piece = piece }
stands g c es q chunk cq view (Err m) a is piece = tt
