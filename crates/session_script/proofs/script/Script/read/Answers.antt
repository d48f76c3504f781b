use Rattle.std.proofs.Common.{length, arith, ap, subst, sym, ◌∙◌, ◌∷◌}
use Rattle.sky_text.specs.LineItems.{line_of}
use Rattle.session_script.specs.Views.{ScriptView}
use Rattle.session_script.proofs.ReadSoFar.{ReadSoFar, handed_on, line_within, read_all, read_more, read_stop}
use Rattle.session_script.proofs.script.Script.read.Goals as goal

pub add-requires-clause-within : goal.add-requires-clause-within
add-requires-clause-within c =
    let here : ReadSoFar c.args.text.now c.loop-line.place (line_of c.in-Some.line ∷ c.next.new.self) c.loop-line.script.steps =
    subst (λ ls. ReadSoFar c.args.text.now c.loop-line.place ls c.loop-line.script.steps) c.in-Some.ensures.steps c.loop-line.invariant.read_so_far in
    omega (arith, line_within c.args.text.now c.loop-line.place c.loop-line.script.steps (line_of c.in-Some.line) c.next.new.self here, ap length c.loop-line.invariant.same)

pub returns-in_err-add-clause-fault : goal.returns-in_err-add-clause-fault
returns-in_err-add-clause-fault c =
    let here : ReadSoFar c.args.text.now c.loop-line.place (line_of c.in-Some.line ∷ c.next.new.self) c.loop-line.script.steps =
    subst (λ ls. ReadSoFar c.args.text.now c.loop-line.place ls c.loop-line.script.steps) c.in-Some.ensures.steps c.loop-line.invariant.read_so_far in
    let stop = read_stop c.args.text.now c.loop-line.place c.loop-line.script.steps (line_of c.in-Some.line) c.next.new.self _ here c.in_err-add.ensures in
    handed_on c.args.text.now c.from_residual.result c.in_err-add.field-0.0 c.from_residual.ensures.1 stop

pub after_end-place-requires : goal.after_end-place-requires
after_end-place-requires c =
    let here : ReadSoFar c.args.text.now c.loop-line.place (line_of c.in-Some.line ∷ c.next.new.self) c.loop-line.script.steps =
    subst (λ ls. ReadSoFar c.args.text.now c.loop-line.place ls c.loop-line.script.steps) c.in-Some.ensures.steps c.loop-line.invariant.read_so_far in
    omega (arith, line_within c.args.text.now c.loop-line.place c.loop-line.script.steps (line_of c.in-Some.line) c.next.new.self here)

pub loop-line-preserved : goal.loop-line-preserved
loop-line-preserved c =
    let here : ReadSoFar c.args.text.now c.loop-line.place (line_of c.in-Some.line ∷ c.next.new.self) c.loop-line.script.steps =
    subst (λ ls. ReadSoFar c.args.text.now c.loop-line.place ls c.loop-line.script.steps) c.in-Some.ensures.steps c.loop-line.invariant.read_so_far in
    let added = c.in_ok-add.ensures in
    let more = read_more c.args.text.now c.loop-line.place c.loop-line.script.steps c.add.new.self.steps (line_of c.in-Some.line) c.next.new.self added.0
    here added.1 (ap (λ (v : ScriptView). v.steps) added.2) in
    record {
      can_next = tt;
      is_finite = tt;
      read_so_far = subst (λ p. ReadSoFar c.args.text.now p c.next.new.self c.add.new.self.steps) (sym c.after_end-place.ensures) more;
      same = ap (λ (v : ScriptView). v.text) added.2 ∙ c.loop-line.invariant.same;
      short = c.loop-line.invariant.short;
    }

pub returns-clause-steps : goal.returns-clause-steps
returns-clause-steps c =
    read_all c.args.text.now c.loop-line.place c.loop-line.script.steps
    (subst (λ ls. ReadSoFar c.args.text.now c.loop-line.place ls c.loop-line.script.steps) c.in-None.ensures.steps.0 c.loop-line.invariant.read_so_far)
