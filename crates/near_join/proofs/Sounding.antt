-- What a chunk query over pairs that can be run asks of two rows: columns that are there.
use Rattle.std.proofs.Common.{◌≡◌, ℕ, ℤ, Bool, true, false, List, [], ◌∷◌, Option, Some, None, refl, subst}
use Rattle.std.specs.Prelude.{◌≤ℤ◌, negsuc, pos}
use Rattle.std.specs.List.{list_all}
use Rattle.std.proofs.lemmas.Bool.{and_parts, and_from}
use Rattle.sky_vector.specs.Points.{square}
use Rattle.sky_rules.specs.Partition.{Partition, overlap_at}
use Rattle.wedge_rules.proofs.Tests.{le_from}
use Rattle.sql_bound.specs.declared.expr.BoundCol.{BoundCol}
use Rattle.sql_bound.specs.declared.query.Shape.{Shape}
use Rattle.sql_bound.specs.declared.query.Shape.TheVariants.{Rows, Pairs, Groups}
use Rattle.value_rules.specs.Sound.{has_col, is_paired, is_sound_cond, is_sound_expr, is_sound_shape}
use Rattle.answer_rules.specs.declared.rewritten.ChunkItem.{ChunkItem}
use Rattle.answer_rules.specs.declared.rewritten.ChunkItem.TheVariants as item
use Rattle.answer_rules.specs.declared.rewritten.ChunkOrder.{ChunkOrder}
use Rattle.answer_rules.specs.declared.rewritten.ChunkQuery.{ChunkQuery}
use Rattle.answer_rules.specs.Plans.{Reaches}
use Rattle.answer_rules.specs.SoundChunks.{IsSoundChunk, is_sound_chunk_order, is_sound_part}
use Rattle.near_join.specs.Sound.{IsSoundLine, is_sound_item, is_sound_key, limit_in}

pub wrong : {A : Type 0} → false ≡ true → A
wrong h = absurd (cc)

-- a shape of pairs is known by its limit
pub paired : (shape : Shape) → is_paired shape ≡ true → shape ≡ Pairs (limit_in shape)
paired Rows h = wrong h
paired (Pairs limit) h = refl
paired (Groups keys) h = wrong h

-- the columns of a pair
abbrev both : ℕ → BoundCol → Bool
both columns = has_col columns true

-- items of pairs are expressions of them
items_sound : (columns : ℕ) (limit : ℤ) (items : List ChunkItem) → list_all (is_sound_part columns (Pairs limit)) items ≡ true → list_all (is_sound_item (both columns)) items ≡ true
items_sound columns limit [] h = refl
items_sound columns limit (item.Plain e ∷ items) h =
    let p = and_parts (is_sound_expr (both columns) e) (list_all (is_sound_part columns (Pairs limit)) items) h in
    and_from (is_sound_expr (both columns) e) (list_all (is_sound_item (both columns)) items) p.0 (items_sound columns limit items p.1)
items_sound columns limit (item.Count ∷ items) h = wrong h
items_sound columns limit (item.CountOf e ∷ items) h = wrong h
items_sound columns limit (item.Sum e ∷ items) h = wrong h
items_sound columns limit (item.Min e ∷ items) h = wrong h
items_sound columns limit (item.Max e ∷ items) h = wrong h

-- so is the key of their order
key_sound : (columns : ℕ) (limit : ℤ) (order : Option ChunkOrder) → is_sound_chunk_order columns (Pairs limit) order ≡ true → is_sound_key (both columns) order ≡ true
key_sound columns limit None h = refl
key_sound columns limit (Some order) h = h

pub line_is_sound : (columns : ℕ) (cq : ChunkQuery) → is_paired cq.shape ≡ true → IsSoundChunk columns cq → IsSoundLine (both columns) cq
line_is_sound columns cq is sound =
    let shape : cq.shape ≡ Pairs (limit_in cq.shape) = paired cq.shape is in
    record {
      items = items_sound columns (limit_in cq.shape) cq.items (subst (λ s. list_all (is_sound_part columns s) cq.items ≡ true) shape sound.items);
      key = key_sound columns (limit_in cq.shape) cq.order (subst (λ s. is_sound_chunk_order columns s cq.order ≡ true) shape sound.order);
      conds = subst (λ b. list_all (is_sound_cond (has_col columns b)) cq.conds ≡ true) is sound.conds;
    }

-- its limit is at least -1
pub limit_is_sound : (columns : ℕ) (shape : Shape) → is_paired shape ≡ true → is_sound_shape columns shape ≡ true → negsuc 0 ≤ℤ limit_in shape
limit_is_sound columns Rows is h = wrong is
limit_is_sound columns (Pairs limit) is h = le_from (negsuc 0) limit h
limit_is_sound columns (Groups keys) is h = wrong is

-- and at most the square of the overlap radius, where the query reaches
pub limit_reaches : (g : Partition) (shape : Shape) (c : ℕ) → is_paired shape ≡ true → Reaches g shape c → limit_in shape ≤ℤ square (pos (overlap_at g c))
limit_reaches g Rows c is h = wrong is
limit_reaches g (Pairs limit) c is h = h
limit_reaches g (Groups keys) c is h = wrong is
