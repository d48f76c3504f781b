use Rattle.std.proofs.Common.{rules, sym, ◌∙◌, subst, take}
use Rattle.std.proofs.lemmas.Bool.{both_ways}
use Rattle.scan_rules.specs.declared.journal_line.JournalLine.TheVariants.{Collect}
use Rattle.scan_core.specs.Replays.{IsNext}
use Rattle.scan_core.proofs.Replaying.{decided_right, decided_wrong}
use Rattle.scan_core.proofs.ReplaySteps.{collect_step, collectable_parts}
use Rattle.scan_core.proofs.Words.{may_collect, runs_at_told, waits_at_told}
use Rattle.scan_core.proofs.replay.Replay.collect.Goals as goal

pub returns-then-runs_at : goal.returns-then-runs_at
returns-then-runs_at c =
    let ran = runs_at_told c.self.invariant.kept c.args.q c.runs_at.result (rw c.list.ensures.items at c.runs_at.ensures.known) c.runs_at.ensures.beyond in
    rw (← c.self.view_is) (decided_wrong c.self.inside.ring c.self.inside.lines.now c.self.inside.done (Collect c.args.seat c.args.q)
    (λ m. both_ways _ (collectable_parts (take c.self.inside.done c.self.inside.lines.now) c.args.q m).0 (sym ran ∙ search rules)))

pub returns-then-not-waits_at : goal.returns-then-not-waits_at
returns-then-not-waits_at c =
    let waited = waits_at_told c.self.invariant.kept c.args.q c.waits_at.result (rw c.list-2.ensures.items at c.waits_at.ensures.known) c.waits_at.ensures.beyond in
    rw (← c.self.view_is) (decided_wrong c.self.inside.ring c.self.inside.lines.now c.self.inside.done (Collect c.args.seat c.args.q)
    (λ m. both_ways _ (sym waited ∙ search rules) (collectable_parts (take c.self.inside.done c.self.inside.lines.now) c.args.q m).1))

pub invariant_of-self : goal.invariant_of-self
invariant_of-self c =
    let ran = runs_at_told c.self.invariant.kept c.args.q c.runs_at.result (rw c.list.ensures.items at c.runs_at.ensures.known) c.runs_at.ensures.beyond in
    let waited = waits_at_told c.self.invariant.kept c.args.q c.waits_at.result (rw c.list-2.ensures.items at c.waits_at.ensures.known) c.waits_at.ensures.beyond in
    let may = may_collect c.self.inside.ring (take c.self.inside.done c.self.inside.lines.now) c.args.seat c.args.q (sym ran ∙ search rules) (sym waited ∙ search rules) in
    let next = subst (λ s. IsNext (Collect c.args.seat c.args.q) s) (sym c.self.view_is) c.requires in
    collect_step c.self.invariant c.args.seat c.args.q next may _ c.collect.ensures

pub returns : goal.returns
returns c =
    let ran = runs_at_told c.self.invariant.kept c.args.q c.runs_at.result (rw c.list.ensures.items at c.runs_at.ensures.known) c.runs_at.ensures.beyond in
    let waited = waits_at_told c.self.invariant.kept c.args.q c.waits_at.result (rw c.list-2.ensures.items at c.waits_at.ensures.known) c.waits_at.ensures.beyond in
    let may = may_collect c.self.inside.ring (take c.self.inside.done c.self.inside.lines.now) c.args.seat c.args.q (sym ran ∙ search rules) (sym waited ∙ search rules) in
    let next = subst (λ s. IsNext (Collect c.args.seat c.args.q) s) (sym c.self.view_is) c.requires in
    rw (← c.self.view_is) (decided_right c.self.inside.ring c.self.inside.lines.now c.self.inside.done (Collect c.args.seat c.args.q) next may)
