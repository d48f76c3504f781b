use Rattle.std.proofs.Common.{refl, sym, ap, ◌∙◌}
use Rattle.bind_rules.specs.Tops.{tests_in}
use Rattle.query_walks.proofs.Walked.{tops_only}
use Rattle.child_bind_rules.specs.JoinCondition.{join_condition_by}
use Rattle.child_bind.specs.Joins.{is_once, joins_met}
use Rattle.child_bind.specs.declared.join_condition.Joins.TheVariants.{Nowhere}
use Rattle.child_bind.proofs.JoinLaws.{met_all, once}
use Rattle.child_bind.proofs.join_condition.has_join_condition.Goals as goal

pub returns-in-Once : goal.returns-in-Once
returns-in-Once c =
    let all = ap (λ m. m.joins) (c.walk.ensures.so refl).1 ∙ met_all _ (tests_in c.args.query.now.cond) in
    let tops = tops_only (join_condition_by c.args.o.now c.args.s.now) c.args.query.now.cond in
    ap is_once (sym c.in-Once.is ∙ all ∙ ap (joins_met Nowhere) tops) ∙ once _

pub returns-in-Nowhere : goal.returns-in-Nowhere
returns-in-Nowhere c =
    let all = ap (λ m. m.joins) (c.walk.ensures.so refl).1 ∙ met_all _ (tests_in c.args.query.now.cond) in
    let tops = tops_only (join_condition_by c.args.o.now c.args.s.now) c.args.query.now.cond in
    ap is_once (sym c.in-Nowhere.is ∙ all ∙ ap (joins_met Nowhere) tops) ∙ once _

pub returns-in-Again : goal.returns-in-Again
returns-in-Again c =
    let all = ap (λ m. m.joins) (c.walk.ensures.so refl).1 ∙ met_all _ (tests_in c.args.query.now.cond) in
    let tops = tops_only (join_condition_by c.args.o.now c.args.s.now) c.args.query.now.cond in
    ap is_once (sym c.in-Again.is ∙ all ∙ ap (joins_met Nowhere) tops) ∙ once _
