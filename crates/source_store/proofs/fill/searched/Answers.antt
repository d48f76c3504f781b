use Rattle.std.proofs.Common.{rules, w64, FitsSigned}
use Rattle.std.proofs.lemmas.Int.{to_z-of_z}
use Rattle.source_store.proofs.Leading.{leads_nowhere, leads_to_one}
use Rattle.source_store.proofs.fill.searched.Goals as goal

pub returns-in-Some : goal.returns-in-Some
returns-in-Some c =
    let fits : FitsSigned w64 c.args.id = search rules in
    let found = simp (to_z-of_z w64 c.args.id fits) at c.in-Some.ensures.found in
    leads_to_one c.args.index.now.plan c.args.index.now.rows c.args.id c.in-Some.place.chunk c.in-Some.place.row found

pub returns-in-None : goal.returns-in-None
returns-in-None c =
    let fits : FitsSigned w64 c.args.id = search rules in
    let none = simp (to_z-of_z w64 c.args.id fits) at c.in-None.ensures.none in
    leads_nowhere c.args.index.now.plan c.args.index.now.rows c.args.id none
