use Rattle.source_filter.proofs.Narrowing.{narrowed_by}
use Rattle.source_filter.proofs.filter.narrow_by.Goals as goal

pub returns-in-Some : goal.returns-in-Some
returns-in-Some c =
    narrowed_by c.args.lists.now c.args.c.now c.in-Some.test c.args.mask.now c.narrow_to.new.mask c.in-Some.ensures c.narrow_to.ensures
