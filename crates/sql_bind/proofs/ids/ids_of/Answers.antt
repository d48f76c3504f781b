use Rattle.std.proofs.Common.{refl, ap, ◌∙◌, ◌++◌}
use Rattle.std.specs.List.{flat_map}
use Rattle.bind_rules.specs.IdTests.{ids_by}
use Rattle.bind_rules.specs.Tops.{tests_in}
use Rattle.query_walks.specs.Behind.{top_only}
use Rattle.sql_bind.specs.declared.ids.IdList.{IdList}
use Rattle.query_walks.proofs.Gathered.{appended_by}
use Rattle.query_walks.proofs.Walked.{tops_only}
use Rattle.sql_bind.proofs.ids.ids_of.Goals as goal

pub returns-then-is_whole : goal.returns-then-is_whole
returns-then-is_whole g c =
    let is = (c.walk.ensures.so c.if-is_whole.true).1 in
    let tests = tests_in c.args.query.now.cond in
    let id = g.T.ColumnTest.passes c.args.id.now in
    let all = appended_by {S = IdList _} (λ s f. record s { ids = s.ids ++ top_only (ids_by (g.T.ColumnTest.passes s.id.now)) f }) (λ s. s.ids) (λ s. g.T.ColumnTest.passes s.id.now) (λ these. top_only (ids_by these)) (λ s f. refl) (λ s f. refl) _ tests in
    ap (λ s. s.ids) is ∙ all ∙ ap (λ xs. xs ++ flat_map (top_only (ids_by id)) tests) c.new.ensures ∙ tops_only (ids_by id) c.args.query.now.cond
