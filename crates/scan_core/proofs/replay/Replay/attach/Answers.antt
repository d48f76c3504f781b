use Rattle.std.proofs.Common.{rules, ◌<◌, ◌≤◌, sym, subst, arith, AllPairs, length, take}
use Rattle.scan_rules.specs.declared.journal_line.JournalLine.TheVariants.{Attach}
use Rattle.scan_rules.specs.Runs.{MayAttach}
use Rattle.scan_core.specs.Attaching.{ahead_in}
use Rattle.scan_core.specs.Changes.{EnteredAt}
use Rattle.scan_core.specs.Replays.{IsNext}
use Rattle.scan_core.proofs.Replaying.{decided_right, decided_wrong}
use Rattle.scan_core.proofs.ReplaySteps.{attach_step, list_short}
use Rattle.scan_core.proofs.replay.Replay.attach.Goals as goal

pub returns-then-not-may_attach-clause-decided : goal.returns-then-not-may_attach-clause-decided
returns-then-not-may_attach-clause-decided c =
    let refused : MayAttach c.self.inside.ring (take c.self.inside.done c.self.inside.lines.now) c.args.q c.args.chunks.now → ⊥ = (rw (← c.self.view_is, c.as_slice-list.ensures.items) at c.may_attach.ensures.wrong) (search rules) in
    rw (← c.self.view_is) (decided_wrong c.self.inside.ring c.self.inside.lines.now c.self.inside.done (Attach c.args.seat c.args.q c.args.chunks.now) refused)

pub overflow_cast-owed : goal.overflow_cast-owed
overflow_cast-owed c =
    let may : MayAttach c.self.inside.ring (take c.self.inside.done c.self.inside.lines.now) c.args.q c.args.chunks.now = (rw (← c.self.view_is, c.as_slice-list.ensures.items) at c.may_attach.ensures.right) (search rules) in
    let up : AllPairs (λ a b. a < b) c.args.chunks.now = rw (← c.as_slice-list.ensures.items) c.as_slice-list.ensures.ascending in
    let short : length c.args.chunks.now ≤ 16384 = list_short c.self.invariant c.args.q c.args.chunks.now may up in
    rw c.as_slice-list.ensures.items (search rules)

pub attach-requires : goal.attach-requires
attach-requires c =
    let may : MayAttach c.self.inside.ring (take c.self.inside.done c.self.inside.lines.now) c.args.q c.args.chunks.now = (rw (← c.self.view_is, c.as_slice-list.ensures.items) at c.may_attach.ensures.right) (search rules) in
    let low : c.args.q < 256 = may.to_255 in
    omega (arith, low, c.self.invariant.kept.full)

pub invariant_of-self : goal.invariant_of-self
invariant_of-self c =
    let may : MayAttach c.self.inside.ring (take c.self.inside.done c.self.inside.lines.now) c.args.q c.args.chunks.now = (rw (← c.self.view_is, c.as_slice-list.ensures.items) at c.may_attach.ensures.right) (search rules) in
    let up : AllPairs (λ a b. a < b) c.args.chunks.now = rw (← c.as_slice-list.ensures.items) c.as_slice-list.ensures.ascending in
    let next = subst (λ s. IsNext (Attach c.args.seat c.args.q c.args.chunks.now) s) (sym c.self.view_is) c.requires in
    let entered : EnteredAt (length c.args.chunks.now) (ahead_in c.self.inside.place c.args.chunks.now) c.self.inside.slots c.attach.new.self c.args.q = rw (← c.as_slice-list.ensures.items) (rw (← c.in_ok-ahead.ensures) c.attach.ensures) in
    attach_step c.self.invariant c.args.seat c.args.q c.args.chunks.now next may up _ entered

pub returns-clause-decided : goal.returns-clause-decided
returns-clause-decided c =
    let may : MayAttach c.self.inside.ring (take c.self.inside.done c.self.inside.lines.now) c.args.q c.args.chunks.now = (rw (← c.self.view_is, c.as_slice-list.ensures.items) at c.may_attach.ensures.right) (search rules) in
    let next = subst (λ s. IsNext (Attach c.args.seat c.args.q c.args.chunks.now) s) (sym c.self.view_is) c.requires in
    rw (← c.self.view_is) (decided_right c.self.inside.ring c.self.inside.lines.now c.self.inside.done (Attach c.args.seat c.args.q c.args.chunks.now) next may)
