-- A query's chunk query as it is cut can be run, and its pieces finish as the query's answer.
use Rattle.std.proofs.Common.{◌≡◌, ◌⊎◌, inl, inr, ℤ, Option, None, refl}
use Rattle.sql_bound.specs.declared.query.Shape.{Shape}
use Rattle.sql_bound.specs.declared.query.Shape.TheVariants.{Rows, Pairs, Groups}
use Rattle.answer_rules.specs.PieceLaws.{CutPieceFinishes}
use Rattle.answer_rules.specs.ChunkQueries.{chunk_limit_of}
use Rattle.answer_rules.specs.SoundChunks.{CutIsSound}
use Rattle.answer_rules.proofs.Finishing.{piece_finishes}
use Rattle.answer_rules.proofs.SoundChunks.{chunk_is_sound}

-- a chunk query has no LIMIT, or that of its query
pushed_by : (shape : Shape) (limit : Option ℤ) → (chunk_limit_of shape limit ≡ None) ⊎ (chunk_limit_of shape limit ≡ limit)
pushed_by Rows limit = inr refl
pushed_by (Pairs chord) limit = inr refl
pushed_by (Groups keys) limit = inl refl

pub cut_is_sound : CutIsSound
cut_is_sound columns q sound = chunk_is_sound columns q (chunk_limit_of q.shape q.limit) sound (pushed_by q.shape q.limit)

pub cut_piece_finishes : CutPieceFinishes
cut_piece_finishes columns g table q B view sound up h =
    piece_finishes columns g table q B (chunk_limit_of q.shape q.limit) view (pushed_by q.shape q.limit) sound up h
