use Rattle.query_ends.proofs.Writing.{wrote_as}
use Rattle.czar.proofs.PlanBlocks.{planned_block}
use Rattle.czar.proofs.explained.put_planned.Goals as goal

pub returns : goal.returns
returns g c =
    wrote_as _ _ _ _ _ (planned_block c.args.world.now.plan c.args.world.now.rows c.args.number c.args.text.now c.args.head.now c.args.query.now c.args.chunks.now c.requires)
    (rw (c.schema-schema.ensures, c.rows.ensures) at c.put_explain.ensures)
