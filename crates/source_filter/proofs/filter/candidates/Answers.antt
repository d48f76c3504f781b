use Rattle.std.proofs.Common.{◌≡◌, ◌∙◌, ℤ, List, IfOk, ap, length, rules, subst, w64, FitsSigned}
use Rattle.std.specs.Ordering.{int_eq}
use Rattle.std.proofs.lemmas.Int.{to_z-of_z}
use Rattle.std.proofs.lemmas.Result.{IfOk-weaker}
use Rattle.source_filter.specs.Objects.{numbers_where}
use Rattle.source_filter.proofs.Objects.{named_candidates}
use Rattle.source_filter.proofs.filter.candidates.Goals as goal

pub returns-in-Some : goal.returns-in-Some
returns-in-Some c =
    let id = c.in-Some.id in
    let fits : FitsSigned w64 id = search rules in
    let objects = c.objects.result.now in
    IfOk-weaker c.numbers_passing.result _ _
    (λ numbers is. named_candidates c.args.conds.now c.args.lists.now (λ object. int_eq object id) numbers.items c.in-Some.ensures
    (is ∙ ap (λ (l : List ℤ). numbers_where (λ object. int_eq object id) l (length l)) c.objects.ensures) c.requires.even.objects)
    (subst (λ (n : ℤ). IfOk c.numbers_passing.result (λ numbers. numbers.items ≡ numbers_where (λ object. int_eq object n) objects (length objects)))
    (to_z-of_z w64 id fits) c.numbers_passing.ensures)
