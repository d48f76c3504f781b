use Rattle.bind_rules.specs.Checks.{alias_place}
use Rattle.transcript_rules.specs.ChunkLines.{key_text_by}
use Rattle.explain_text.proofs.ChunkItems.{one_behind}
use Rattle.column_text.proofs.Parting.{as_text}
use Rattle.explain_text.proofs.chunk_items.put_order_key.Goals as goal

pub returns-in-Some : goal.returns-in-Some
returns-in-Some g c =
    rw c.in-Some.is
    (as_text _ _ _ _ _ (one_behind (key_text_by c.args.head.now c.in-Some.order.key (alias_place c.args.head.now c.in-Some.order.key)))
    c.put_further_key.ensures)
