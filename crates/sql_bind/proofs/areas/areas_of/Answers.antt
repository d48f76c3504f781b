use Rattle.std.proofs.Common.{true, refl, ap, ◌∙◌, ◌++◌}
use Rattle.std.specs.List.{flat_map}
use Rattle.bind_rules.specs.IdTests.{areas_by}
use Rattle.bind_rules.specs.Tops.{tests_in}
use Rattle.query_walks.specs.Behind.{top_only}
use Rattle.sql_bind.specs.declared.areas.AreaList.{AreaList}
use Rattle.query_walks.proofs.Gathered.{appended}
use Rattle.query_walks.proofs.Walked.{tops_only}
use Rattle.sql_bind.proofs.areas.areas_of.Goals as goal

pub returns-then-is_whole : goal.returns-then-is_whole
returns-then-is_whole c =
    let is = (c.walk.ensures.so c.if-is_whole.true).1 in
    let tests = tests_in c.args.query.now.cond in
    let all = appended {S = AreaList} (λ s f. record { areas = s.areas ++ top_only areas_by f; is_whole = s.is_whole }) (λ s. s.areas) (top_only areas_by) (λ s f. refl) (record { areas = c.new.result; is_whole = true }) tests in
    ap (λ s. s.areas) is ∙ all ∙ ap (λ xs. xs ++ flat_map (top_only areas_by) tests) c.new.ensures ∙ tops_only areas_by c.args.query.now.cond
