use Rattle.std.proofs.Common.{length, arith, ap, sym, ◌∙◌}
use Rattle.sky_text.specs.LineItems.{line_of}
use Rattle.session_script.specs.Views.{ScriptView}
use Rattle.session_script.proofs.Numbered.{numbers_kept}
use Rattle.session_script.proofs.Spans.{spans_kept}
use Rattle.session_script.proofs.script.Script.add.Goals as goal

pub invariant_of-self : goal.invariant_of-self
invariant_of-self c =
    let spans = spans_kept c.len.result c.args.place (length c.self.inside.text.now) (line_of c.args.line.now) c.in-Ok-Some.field-0 c.in-Ok-Some.step
    c.self.inside.steps.items c.put.new.steps.items c.self.inside.queries.items c.put.new.queries.items c.put.result
    (omega arith) (omega (arith, c.requires.within, ap (λ (v : ScriptView). length v.text) c.self.view_is)) c.in-Ok-Some.ensures c.in-Ok-Some.field-0-is
    (c.self.invariant.0, c.self.invariant.1, c.self.invariant.2) c.put.ensures.steps c.put.ensures.queries c.put.ensures.same in
    let numbers = numbers_kept c.len.result c.args.place (line_of c.args.line.now) c.in-Ok-Some.field-0 c.in-Ok-Some.step
    c.self.inside.steps.items c.put.new.steps.items _ c.put.result
    (omega (arith, ap length c.self.invariant.0)) c.in-Ok-Some.ensures c.in-Ok-Some.field-0-is c.self.invariant.3 c.put.ensures.steps c.put.ensures.same in
    (spans.0, spans.1, spans.2, numbers)
