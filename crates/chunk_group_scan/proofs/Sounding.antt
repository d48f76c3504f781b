-- What a chunk query that can be run asks of a row: columns that are there.
use Rattle.std.proofs.Common.{◌≡◌, ℕ, true, List, [], ◌∷◌, refl}
use Rattle.std.specs.List.{list_all}
use Rattle.std.proofs.lemmas.Bool.{and_parts, and_from}
use Rattle.sql_bound.specs.declared.expr.BoundCol.{BoundCol}
use Rattle.sql_bound.specs.declared.query.Shape.TheVariants.{Groups}
use Rattle.answer_rules.specs.declared.rewritten.ChunkItem.{ChunkItem}
use Rattle.answer_rules.specs.declared.rewritten.ChunkItem.TheVariants as item
use Rattle.answer_rules.specs.SoundChunks.{is_sound_part}
use Rattle.chunk_group_scan.specs.Grouped.{is_sound_total}

one : (columns : ℕ) (keys : List BoundCol) (i : ChunkItem) → is_sound_part columns (Groups keys) i ≡ true → is_sound_total columns i ≡ true
one columns keys (item.Plain e) h = refl
one columns keys item.Count h = refl
one columns keys (item.CountOf e) h = h
one columns keys (item.Sum e) h = h
one columns keys (item.Min e) h = h
one columns keys (item.Max e) h = h

-- the aggregates of a grouping are over columns of the table
pub totals_sound : (columns : ℕ) (keys : List BoundCol) (items : List ChunkItem) → list_all (is_sound_part columns (Groups keys)) items ≡ true → list_all (is_sound_total columns) items ≡ true
totals_sound columns keys [] h = refl
totals_sound columns keys (i ∷ items) h =
    let p = and_parts (is_sound_part columns (Groups keys) i) (list_all (is_sound_part columns (Groups keys)) items) h in
    and_from (is_sound_total columns i) (list_all (is_sound_total columns) items) (one columns keys i p.0) (totals_sound columns keys items p.1)
