use Rattle.std.proofs.Common.{sym, subst, refl}
use Rattle.child_session.specs.ChildAttached.{CanRunChild, query_in_plan}
use Rattle.child_session.specs.declared.plan.ChildPlan.{ChildPlan}
use Rattle.child_session.proofs.Attaching.{give_above, given_if}
use Rattle.child_session.proofs.attach.push_next.Goals as goal

pub push_query-requires-clause-above : goal.push_query-requires-clause-above
push_query-requires-clause-above c =
    give_above c.args.world.now c.args.plans.now c.args.place _ c.args.root.now c.requires.given c.requires.there refl

pub push_query-requires-clause-child : goal.push_query-requires-clause-child
push_query-requires-clause-child c =
    subst (λ (p : ChildPlan). CanRunChild (query_in_plan p)) (sym c.index-plans-place.is)
    (c.requires.child c.args.place c.index-plans-place.result c.requires.there)

pub returns : goal.returns
returns c =
    given_if c.args.world.now c.args.plans.now c.args.place _ _ c.args.root.now _ _ c.requires.given c.requires.there refl c.index-plans-place.is c.push_query.ensures
