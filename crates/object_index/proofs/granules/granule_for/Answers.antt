use Rattle.std.proofs.Common.{rules, w64, FitsSigned}
use Rattle.std.proofs.lemmas.Int.{to_z-of_z}
use Rattle.object_index.proofs.Sparse.{after_first, at_first, below_all}
use Rattle.object_index.proofs.granules.granule_for.Goals as goal

pub returns-in-Ok-clause-some : goal.returns-in-Ok-clause-some
returns-in-Ok-clause-some c =
    let fits : FitsSigned w64 c.args.id = search rules in
    at_first c.args.ids.now c.args.firsts.now.entries c.args.id c.in-Ok.granule c.index.result.now c.requires.ascend c.requires.sparse (search rules)
    (simp (to_z-of_z w64 c.args.id fits) at c.in-Ok.ensures.ok) c.index.ensures

pub returns-in-Err-eq0-clause-none : goal.returns-in-Err-eq0-clause-none
returns-in-Err-eq0-clause-none c =
    let fits : FitsSigned w64 c.args.id = search rules in
    below_all c.args.ids.now c.args.firsts.now.entries c.args.id c.in-Err-eq0.field-0 c.requires.ascend c.requires.sparse (search rules)
    (simp (to_z-of_z w64 c.args.id fits) at c.in-Err-eq0.ensures.position)

pub returns-in-Err-clause-some : goal.returns-in-Err-clause-some
returns-in-Err-clause-some c =
    let fits : FitsSigned w64 c.args.id = search rules in
    after_first c.args.ids.now c.args.firsts.now.entries c.args.id c.in-Err.next _ c.index-in-Err.result.now c.requires.ascend c.requires.sparse (search rules) (search rules)
    (simp (to_z-of_z w64 c.args.id fits) at c.in-Err.ensures.position) c.index-in-Err.ensures
