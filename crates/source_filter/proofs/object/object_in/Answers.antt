use Rattle.std.proofs.Common.{rules, subst, sym, w64, FitsSigned}
use Rattle.std.specs.Ordering.{int_eq}
use Rattle.std.proofs.lemmas.Int.{to_z-of_z}
use Rattle.source_filter.specs.Objects.{NamesObjects}
use Rattle.source_filter.proofs.Narrowing.{found_at}
use Rattle.source_filter.proofs.Objects.{conds_name}
use Rattle.source_filter.proofs.object.object_in.Goals as goal

pub returns-in-Some : goal.returns-in-Some
returns-in-Some c =
    let id = c.in-Some.id in
    let fits : FitsSigned w64 id = search rules in
    subst (λ n. NamesObjects c.args.conds.now (λ object. int_eq object n)) (sym (to_z-of_z w64 id fits))
    (conds_name c.args.conds.now c.loop-i.i c.index-conds-i.result (λ object. int_eq object id)
    (found_at c.args.conds.now c.loop-i.i c.index-conds-i.result c.loop-i-test.true c.index-conds-i.is) c.in-Some.ensures)
