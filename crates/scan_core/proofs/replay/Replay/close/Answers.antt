use Rattle.std.proofs.Common.{rules, sym, ◌∙◌, subst}
use Rattle.std.proofs.lemmas.Bool.{both_ways}
use Rattle.scan_rules.specs.declared.journal_line.JournalLine.TheVariants.{Close}
use Rattle.scan_core.specs.Replays.{IsNext}
use Rattle.scan_core.proofs.Replaying.{decided_right, decided_wrong}
use Rattle.scan_core.proofs.ReplaySteps.{close_step}
use Rattle.scan_core.proofs.replay.Replay.close.Goals as goal

pub returns-then-self : goal.returns-then-self
returns-then-self c = rw (← c.self.view_is) (decided_wrong c.self.inside.ring c.self.inside.lines.now c.self.inside.done (Close c.args.seat) (λ m. both_ways _ m (sym c.self.invariant.kept.closes ∙ search rules)))

pub invariant_of-self : goal.invariant_of-self
invariant_of-self c =
    let next = subst (λ s. IsNext (Close c.args.seat) s) (sym c.self.view_is) c.requires in
    close_step c.self.invariant c.args.seat next (search rules)

pub returns : goal.returns
returns c =
    let next = subst (λ s. IsNext (Close c.args.seat) s) (sym c.self.view_is) c.requires in
    rw (← c.self.view_is) (decided_right c.self.inside.ring c.self.inside.lines.now c.self.inside.done (Close c.args.seat) next (sym c.self.invariant.kept.closes ∙ search rules))
