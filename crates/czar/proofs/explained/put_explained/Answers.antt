use Rattle.std.proofs.Common.{sym, ◌∙◌}
use Rattle.transcript_rules.specs.Explained.{explained}
use Rattle.transcript_rules.proofs.Blocks.{one_explained_each}
use Rattle.czar.proofs.explained.put_explained.Goals as goal

pub put_blocks-requires-clause-count : goal.put_blocks-requires-clause-count
put_blocks-requires-clause-count g c =
    c.queries.ensures.count ∙ sym (one_explained_each c.args.world.now.plan c.args.world.now.rows c.args.script.now)

pub returns : goal.returns
unfolding explained
returns g c = c.put_blocks.ensures
