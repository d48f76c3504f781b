use Rattle.value_rules.specs.Truth.{is_one_of}
use Rattle.source_filter.proofs.Narrowing.{found_at}
use Rattle.source_filter.proofs.Objects.{conds_name}
use Rattle.source_filter.proofs.object.objects_in.Goals as goal

pub returns-in-Some : goal.returns-in-Some
returns-in-Some c =
    conds_name c.args.conds.now c.loop-i.i c.index-conds-i.result (is_one_of c.in-Some.ids.now)
    (found_at c.args.conds.now c.loop-i.i c.index-conds-i.result c.loop-i-test.true c.index-conds-i.is) c.in-Some.ensures
