-- The one chunk that holds a point.
use Rattle.std.proofs.Common.{◌≡◌, ℕ, ◌<◌, refl, sym, ◌∙◌, Bool, true, false, nat_eq, ◌&&◌, not, eqb-true, eq-eqb, subst}
use Rattle.sky_vector.specs.Points.{Point}
use Rattle.sky_rules.specs.Partition.{Partition, chunk_count}
use Rattle.sky_rules.specs.Bounds.{in_chunk, near_chunk}
use Rattle.overlap_tables.specs.Overlaps.{IsOwn, in_full_overlap}

own_by : (g : Partition) (own c : ℕ) (p : Point) (a b : Bool) → IsOwn g own p → c < chunk_count g → in_chunk g c p ≡ a → nat_eq c own ≡ b → a ≡ b
own_by g own c p true true is h e f = refl
own_by g own c p true false is h e f = sym (eq-eqb c own (is.only c h e)) ∙ f
own_by g own c p false true is h e f = sym e ∙ subst (λ d. in_chunk g d p ≡ true) (sym (eqb-true c own f)) is.holds
own_by g own c p false false is h e f = refl

-- a chunk holds the point where it is that one
pub in_own : (g : Partition) (own c : ℕ) (p : Point) → IsOwn g own p → c < chunk_count g → in_chunk g c p ≡ nat_eq c own
in_own g own c p is h = own_by g own c p _ _ is h refl refl

overlap_by : (a b : Bool) (near held : Bool) → held ≡ a → near ≡ b → near && not held ≡ not a && b
overlap_by true true near held e f = rw (e, f) refl
overlap_by true false near held e f = rw (e, f) refl
overlap_by false true near held e f = rw (e, f) refl
overlap_by false false near held e f = rw (e, f) refl

-- the full overlap of a chunk holds the point where the chunk is another one that it is near
pub other_near : (g : Partition) (own c : ℕ) (p : Point) → IsOwn g own p → c < chunk_count g
    → in_full_overlap g c p ≡ not (nat_eq c own) && near_chunk g c p
other_near g own c p is h = overlap_by _ _ (near_chunk g c p) (in_chunk g c p) (in_own g own c p is h) refl
