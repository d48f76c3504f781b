use Rattle.record_text.specs.PlainText.{IsPlain, ReadsOn, bytes_of}
use Rattle.record_text.proofs.lines.read_fields.Given as goal

abbrev pub invariant-loop-turn : goal.invariant-loop-turn
invariant-loop-turn l = record {
  reads : IsPlain l.fn.text → ReadsOn l.fn.text (bytes_of l.fields.items) l.rest;
}
