use Rattle.std.proofs.Common.{◌≡◌, List, IfOk, map, rules, subst}
use Rattle.scan_session.specs.Drove.{Drove}
use Rattle.scan_session.specs.Places.{seen_of}
use Rattle.scan_classes.specs.declared.class.Class.{Class}
use Rattle.scan_classes.specs.declared.class.Class.TheVariants.{Short}
use Rattle.scan_classes.specs.Pairs.{seat_at}
use Rattle.czar.specs.Driven.{chunks_planned}
use Rattle.query_ends.specs.Ends.{kind_of}
use Rattle.query_ends.specs.States.{AreEndsIn}
use Rattle.czar.specs.QueryPlans.{Plan}
use Rattle.czar.proofs.Driving.{driven, of_value}
use Rattle.class_session.specs.ClassPlans.{class_at, of_class}
use Rattle.class_session.proofs.ClassEnds.{ends_in_states, if_ok}
use Rattle.class_session.proofs.FirstPairs.{pairs_ended}
use Rattle.class_session.proofs.session.drive_classes.Goals as goal

pub each_query_is_of_its_class_once_all_pairs_have_ended-requires-clause-first : goal.each_query_is_of_its_class_once_all_pairs_have_ended-requires-clause-first
each_query_is_of_its_class_once_all_pairs_have_ended-requires-clause-first g c = (c.driven-ends.ensures.manned Short).first

pub each_query_is_of_its_class_once_all_pairs_have_ended-requires-clause-ended : goal.each_query_is_of_its_class_once_all_pairs_have_ended-requires-clause-ended
each_query_is_of_its_class_once_all_pairs_have_ended-requires-clause-ended g c =
    let w = c.args.session.now.world.now in
    pairs_ended w.plan w.rows c.args.plans.items c.args.classes.now c.args.pair c.requires.first c.driven-ends.result.1 c.driven-ends.ensures.manned

pub query_ends-requires-clause-driven : goal.query_ends-requires-clause-driven
query_ends-requires-clause-driven g c = λ κs within.
    driven (of_value _ c.in-Ok.is c.driven-ends.ensures.driven) (search rules) (search rules)

pub returns-in-Ok-clause-drove : goal.returns-in-Ok-clause-drove
returns-in-Ok-clause-drove g c =
    let s = c.args.session.now in
    let is : c.as_slice.result.now ≡ c.args.plans.items = search rules in
    subst (λ (ps : List Plan). IfOk c.query_ends.result (λ v. (class : Class) → Drove s.workers (of_class class (chunks_planned ps)) s.script.now.steps (seat_at c.driven-ends.result.1 class).seen))
    is (if_ok c.query_ends.result (of_value _ c.in-Ok.is c.driven-ends.ensures.drove))

pub returns-in-Ok-clause-manned : goal.returns-in-Ok-clause-manned
returns-in-Ok-clause-manned g c = c.driven-ends.ensures.manned

pub returns-in-Err-clause-manned : goal.returns-in-Err-clause-manned
returns-in-Err-clause-manned g c = c.driven-ends.ensures.manned

pub returns-in-Ok-clause-states : goal.returns-in-Ok-clause-states
returns-in-Ok-clause-states g c =
    let is : c.as_slice.result.now ≡ c.args.plans.items = search rules in
    subst (λ (ps : List Plan). IfOk c.query_ends.result (λ v. AreEndsIn (seen_of (class_at (chunks_planned ps)) (seat_at c.driven-ends.result.1)) (map kind_of v.items)))
    is (ends_in_states (of_value _ c.in-Ok.is c.driven-ends.ensures.driven) (λ v. v.items) c.query_ends.result (search rules) (search rules) c.query_ends.ensures.ended)

pub returns-in-Ok-clause-made : goal.returns-in-Ok-clause-made
returns-in-Ok-clause-made g c = if_ok c.query_ends.result (of_value _ c.in-Ok.is c.driven-ends.ensures.made)
