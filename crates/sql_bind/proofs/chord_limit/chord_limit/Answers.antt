use Rattle.std.proofs.Common.{rules, FitsSigned, w64, pos, None, refl, sym, ap, ◌∙◌}
use Rattle.std.proofs.lemmas.Int.{to_z-of_z}
use Rattle.std.specs.List.{flat_map}
use Rattle.bind_rules.specs.Binding.{chord_limit}
use Rattle.bind_rules.specs.Tops.{tests_in, top_tests}
use Rattle.sql_bind.specs.declared.chord_limit.FirstLimit.{FirstLimit}
use Rattle.query_walks.specs.Behind.{first_behind, top_only}
use Rattle.query_walks.proofs.Gathered.{firsts, first_or_some, first_or_none}
use Rattle.query_walks.proofs.Walked.{tops_only}
use Rattle.sql_bind.proofs.chord_limit.chord_limit.Goals as goal

pub returns-in-Some : goal.returns-in-Some
returns-in-Some c =
    let is = (c.walk.ensures.so refl).1 in
    let tests = tests_in c.args.query.now.cond in
    let all = firsts {S = FirstLimit} (λ s f. record { limit = first_behind s.limit (top_only chord_limit f) }) (λ s. s.limit) (top_only chord_limit) (λ s f. refl) (record { limit = None }) tests in
    let first = first_or_some (pos 0) c.in-Some.limit (flat_map chord_limit (top_tests c.args.query.now.cond)) (sym (ap (λ s. s.limit) is ∙ all ∙ ap (first_behind None) (tops_only chord_limit c.args.query.now.cond)) ∙ c.in-Some.is) in
    let fits : FitsSigned w64 c.in-Some.limit = search rules in
    to_z-of_z w64 c.in-Some.limit fits ∙ sym first

pub returns-in-None : goal.returns-in-None
returns-in-None c =
    let is = (c.walk.ensures.so refl).1 in
    let tests = tests_in c.args.query.now.cond in
    let all = firsts {S = FirstLimit} (λ s f. record { limit = first_behind s.limit (top_only chord_limit f) }) (λ s. s.limit) (top_only chord_limit) (λ s f. refl) (record { limit = None }) tests in
    let first = first_or_none (pos 0) (flat_map chord_limit (top_tests c.args.query.now.cond)) (sym (ap (λ s. s.limit) is ∙ all ∙ ap (first_behind None) (tops_only chord_limit c.args.query.now.cond)) ∙ c.in-None.is) in
    sym first
