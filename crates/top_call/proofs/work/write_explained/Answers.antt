use Rattle.std.proofs.Common.{refl}
use Rattle.top_call.specs.Jobs.{Explains}
use Rattle.top_call.proofs.Writing.{torn, written}
use Rattle.top_call.proofs.work.write_explained.Goals as goal

pub returns-in-Failed : goal.returns-in-Failed
returns-in-Failed g c =
    torn (Explains c.args.world.now c.args.script.now) _ _ _ _ c.no_ends-ends.ensures refl c.in-Failed.ensures

pub returns-in-Done : goal.returns-in-Done
returns-in-Done g c =
    written (Explains c.args.world.now c.args.script.now) _ _ _ _ _ _
    c.no_ends-ends.ensures refl c.in-Done.ensures c.send.ensures
