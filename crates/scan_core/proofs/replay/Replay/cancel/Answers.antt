use Rattle.std.proofs.Common.{rules, sym, ◌∙◌, subst}
use Rattle.std.proofs.lemmas.Bool.{both_ways}
use Rattle.scan_rules.specs.declared.journal_line.JournalLine.TheVariants.{Cancel}
use Rattle.scan_core.specs.Replays.{IsNext}
use Rattle.scan_core.proofs.Replaying.{decided_right, decided_wrong}
use Rattle.scan_core.proofs.ReplaySteps.{cancel_step}
use Rattle.scan_core.proofs.Words.{runs_at_told}
use Rattle.scan_core.proofs.replay.Replay.cancel.Goals as goal

pub returns-then-not-runs_at : goal.returns-then-not-runs_at
returns-then-not-runs_at c =
    let ran = runs_at_told c.self.invariant.kept c.args.q c.runs_at.result (rw c.list.ensures.items at c.runs_at.ensures.known) c.runs_at.ensures.beyond in
    rw (← c.self.view_is) (decided_wrong c.self.inside.ring c.self.inside.lines.now c.self.inside.done (Cancel c.args.seat c.args.q) (λ m. both_ways _ (sym ran ∙ search rules) m))

pub invariant_of-self : goal.invariant_of-self
invariant_of-self c =
    let ran = runs_at_told c.self.invariant.kept c.args.q c.runs_at.result (rw c.list.ensures.items at c.runs_at.ensures.known) c.runs_at.ensures.beyond in
    let next = subst (λ s. IsNext (Cancel c.args.seat c.args.q) s) (sym c.self.view_is) c.requires in
    cancel_step c.self.invariant c.args.seat c.args.q next (sym ran ∙ search rules) _ c.cancel.ensures

pub returns : goal.returns
returns c =
    let ran = runs_at_told c.self.invariant.kept c.args.q c.runs_at.result (rw c.list.ensures.items at c.runs_at.ensures.known) c.runs_at.ensures.beyond in
    let next = subst (λ s. IsNext (Cancel c.args.seat c.args.q) s) (sym c.self.view_is) c.requires in
    rw (← c.self.view_is) (decided_right c.self.inside.ring c.self.inside.lines.now c.self.inside.done (Cancel c.args.seat c.args.q) next (sym ran ∙ search rules))
