use Rattle.query_ends.proofs.Lines.{one_each}
use Rattle.query_ends.proofs.Writing.{wrote_as}
use Rattle.child_session.specs.ChildEnds.{ChildEndShows}
use Rattle.child_session.proofs.EndBlocks.{same_transcript}
use Rattle.child_session.proofs.transcript.put_child_transcript.Goals as goal

pub put_ends-requires : goal.put_ends-requires
put_ends-requires g c = record {
  each = one_each (ChildEndShows c.args.world.now) c.args.script.now c.args.ends.now c.requires.shown;
}

pub returns : goal.returns
returns g c =
    wrote_as _ _ _ _ _ (same_transcript c.args.world.now c.args.script.now c.args.ends.now c.requires.shown)
    (rw (c.schema-schema.ensures, c.rows.ensures, c.store.ensures.rows) at c.put_ends.ensures)
