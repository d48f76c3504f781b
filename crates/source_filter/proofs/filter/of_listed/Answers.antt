use Rattle.std.proofs.Common.{◌∙◌, ℤ, List, ap, length, get_or, false}
use Rattle.std.proofs.lemmas.Result.{IfOk-weaker}
use Rattle.source_filter.specs.Objects.{flag_number, numbers_where}
use Rattle.source_filter.proofs.Objects.{flags_name, named_candidates}
use Rattle.source_filter.proofs.filter.of_listed.Goals as goal

pub returns-in-Some : goal.returns-in-Some
returns-in-Some c =
    let flags = c.flags_of.result.flags in
    let test = λ (id : ℤ). get_or flags (flag_number id) false in
    let names = flags_name c.args.conds.now c.in-Some.ids.now flags c.in-Some.ensures c.flags_of.ensures in
    IfOk-weaker c.numbers_passing.result _ _
    (λ numbers is. named_candidates c.args.conds.now c.args.lists.now test numbers.items names
    (is ∙ ap (λ (l : List ℤ). numbers_where test l (length l)) c.objects.ensures) c.requires.even.objects)
    c.numbers_passing.ensures
