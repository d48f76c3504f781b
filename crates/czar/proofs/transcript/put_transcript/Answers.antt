use Rattle.query_ends.proofs.Lines.{one_each}
use Rattle.query_ends.proofs.Writing.{wrote_as}
use Rattle.czar.specs.Ends.{EndShows}
use Rattle.czar.proofs.EndBlocks.{same_transcript}
use Rattle.czar.proofs.transcript.put_transcript.Goals as goal

pub put_ends-requires : goal.put_ends-requires
put_ends-requires g c = record {
  each = one_each (EndShows c.args.world.now.plan c.args.world.now.rows) c.args.script.now c.args.ends.now c.requires.shown;
}

pub returns : goal.returns
returns g c =
    wrote_as _ _ _ _ _ (same_transcript c.args.world.now.plan c.args.world.now.rows c.args.script.now c.args.ends.now c.requires.shown)
    (rw (c.schema-schema.ensures, c.rows.ensures) at c.put_ends.ensures)
