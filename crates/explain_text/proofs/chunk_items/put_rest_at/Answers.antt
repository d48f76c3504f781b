use Rattle.std.proofs.Common.{ap, length, sym}
use Rattle.std.proofs.lemmas.Bool.{ltb-false}
use Rattle.std.proofs.lemmas.Option.{slice_get_past}
use Rattle.sky_io.proofs.Writes.{wrote_nothing}
use Rattle.transcript_rules.specs.ChunkLines.{text_of_item}
use Rattle.column_text.proofs.Parting.{as_text}
use Rattle.explain_text.proofs.chunk_items.put_rest_at.Goals as goal

pub returns-in-None : goal.returns-in-None
returns-in-None g c =
    as_text _ _ _ _ _ (ap text_of_item (slice_get_past c.args.rest.now c.args.place (ltb-false c.args.place (length c.args.rest.now) (sym c.in-None.ensures.lookup.0)))) (wrote_nothing _)
