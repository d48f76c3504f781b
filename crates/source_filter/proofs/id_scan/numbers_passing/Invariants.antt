use Rattle.std.proofs.Common.{◌≡◌, ◌*◌, length, min}
use Rattle.source_filter.specs.Objects.{numbers_where}
use Rattle.source_filter.proofs.id_scan.numbers_passing.Given as goal

abbrev pub invariant-loop-block : goal.invariant-loop-block
invariant-loop-block g l = l.numbers.items ≡ numbers_where (g.T.IdTest.passes l.test) l.ids (min (length l.ids) (l.block * 64))
