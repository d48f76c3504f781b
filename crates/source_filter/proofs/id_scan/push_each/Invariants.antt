use Rattle.std.proofs.Common.{◌≡◌}
use Rattle.source_filter.specs.Objects.{numbers_where}
use Rattle.source_filter.proofs.id_scan.push_each.Given as goal

abbrev pub invariant-loop-k : goal.invariant-loop-k
invariant-loop-k g l = l.numbers.items ≡ numbers_where (g.T.IdTest.passes l.test) l.ids l.k
