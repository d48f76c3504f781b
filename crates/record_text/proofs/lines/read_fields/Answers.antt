use Rattle.std.proofs.Common.{refl}
use Rattle.record_text.proofs.PlainLines.{reads_last, reads_more}
use Rattle.record_text.proofs.lines.read_fields.Goals as goal

pub returns-then-is_last : goal.returns-then-is_last
returns-then-is_last c =
    reads_last c.args.text.now c.loop-turn.rest.now c.after.result.now c.field_len-len.result c.loop-turn.fields.items c.push.new.self.items _ c.loop-turn.invariant.reads
    c.field_len-len.ensures c.if-is_last.ensures.yes refl c.in_ok-push.ensures.items c.after.ensures

pub loop-turn-preserved : goal.loop-turn-preserved
loop-turn-preserved c = record {
  reads =
      reads_more c.args.text.now c.loop-turn.rest.now c.after-rest.result.now c.field_len-len.result c.loop-turn.fields.items c.push.new.self.items _ c.loop-turn.invariant.reads
      c.field_len-len.ensures c.if-is_last.ensures.there c.if-is_last.ensures.other refl c.in_ok-push.ensures.items c.after-rest.ensures;
}
