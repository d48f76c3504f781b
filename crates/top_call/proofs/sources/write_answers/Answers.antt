use Rattle.std.proofs.Common.{map, refl}
use Rattle.query_ends.specs.Ends.{kind_of}
use Rattle.top_call.specs.Jobs.{RunsChildren}
use Rattle.top_call.proofs.Writing.{torn_as, written_as}
use Rattle.top_call.proofs.sources.write_answers.Goals as goal

pub returns-in-Failed : goal.returns-in-Failed
returns-in-Failed g c =
    λ workers fit. torn_as (RunsChildren workers c.args.tables.now c.args.script.now) (map kind_of c.args.ends.now) c.in-Ok.kinds
    _ _ _ c.in-Ok.ensures fit refl c.in-Failed.ensures

pub returns-in-Done : goal.returns-in-Done
returns-in-Done g c =
    λ workers fit. written_as (RunsChildren workers c.args.tables.now c.args.script.now) (map kind_of c.args.ends.now) c.in-Ok.kinds
    _ _ _ _ _ c.in-Ok.ensures fit refl c.in-Done.ensures c.send.ensures
