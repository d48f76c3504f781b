use Rattle.std.proofs.Common.{subst}
use Rattle.table_rules.specs.Objects.{Catalogue}
use Rattle.answer_rules.specs.Coverage.{AreInTheSky}
use Rattle.near_join.proofs.Sweeping.{in_the_sky}
use Rattle.near_join.proofs.chunk.know.Goals as goal

pub returns-clause-rows : goal.returns-clause-rows
returns-clause-rows c = subst (λ (t : Catalogue). AreInTheSky t.objects) c.rows.ensures (in_the_sky c.rows.result.now c.len.ensures.limits)
