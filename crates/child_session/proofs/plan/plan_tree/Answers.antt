use Rattle.child_session.proofs.Planning.{bound_plan, unbound_plan}
use Rattle.child_session.proofs.plan.plan_tree.Goals as goal

pub returns-in-Ok : goal.returns-in-Ok
returns-in-Ok c =
    bound_plan c.args.world.now c.args.tree c.in-Ok.bound _ (rw (c.schema-objects.ensures, c.rows.ensures, c.store.ensures.rows, c.schema-sources.ensures, c.sources.ensures, c.sources-store.ensures.table) at c.in-Ok.ensures.ok) c.plan_bound.ensures

pub returns-in-Err : goal.returns-in-Err
returns-in-Err c = unbound_plan c.args.world.now c.args.tree c.in-Err.stop _ (rw (c.schema-objects.ensures, c.rows.ensures, c.store.ensures.rows, c.schema-sources.ensures, c.sources.ensures, c.sources-store.ensures.table) at c.in-Err.ensures.bad) c.unbound.ensures
