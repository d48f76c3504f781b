use Rattle.std.proofs.Common.{◌≡◌, ◌+◌, drop}
use Rattle.answer_rules.specs.Rewriting.{key_place}
use Rattle.chunk_rewriter.proofs.order.key_place.Given as goal

abbrev pub invariant-loop-place : goal.invariant-loop-place
invariant-loop-place l = key_place l.keys l.col ≡ l.place + key_place (drop l.place l.keys) l.col
