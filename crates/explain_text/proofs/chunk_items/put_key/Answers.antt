use Rattle.std.proofs.Common.{ap, sym, ◌∙◌}
use Rattle.transcript_rules.specs.ChunkLines.{key_text_by}
use Rattle.column_text.proofs.Parting.{as_text}
use Rattle.explain_text.proofs.chunk_items.put_key.Goals as goal

pub returns-in-Some : goal.returns-in-Some
returns-in-Some g c =
    as_text _ _ _ _ _ (ap (key_text_by c.args.head.now c.args.key.now) (sym c.alias_place.ensures ∙ c.in-Some.is)) c.put_item_at.ensures

pub returns-in-None : goal.returns-in-None
returns-in-None g c =
    as_text _ _ _ _ _ (ap (key_text_by c.args.head.now c.args.key.now) (sym c.alias_place.ensures ∙ c.in-None.is)) c.put_col.ensures
