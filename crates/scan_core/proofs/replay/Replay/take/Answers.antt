use Rattle.std.proofs.Common.{rules, sym, subst, ◌≡◌, length, take, refl}
use Rattle.scan_rules.specs.declared.journal_line.JournalLine.TheVariants.{Take}
use Rattle.scan_rules.specs.Runs.{MayTake}
use Rattle.scan_core.specs.Replays.{IsNext, shown}
use Rattle.scan_core.proofs.Replaying.{decided_right, decided_wrong}
use Rattle.scan_core.proofs.ReplaySteps.{next_here, none_refused, chunk_refused, ticket_refused, queries_refused, take_right, take_step}
use Rattle.scan_core.proofs.Taking.{can_serve, here_low}
use Rattle.scan_core.proofs.replay.Replay.take.Goals as goal

pub chunk_at-next-requires-clause-low : goal.chunk_at-next-requires-clause-low
chunk_at-next-requires-clause-low c = here_low c.self.invariant.kept c.least_step-step.result (search rules)

pub returns-then-step-self-clause-decided : goal.returns-then-step-self-clause-decided
returns-then-step-self-clause-decided c = rw (← c.self.view_is) (decided_wrong c.self.inside.ring c.self.inside.lines.now c.self.inside.done (Take c.args.seat c.args.ticket c.args.chunk c.args.queries.now)
    (λ m. none_refused c.self.invariant c.least_step-step.result c.least_step-step.ensures (search rules) c.args.ticket c.args.chunk c.args.queries.now m))

pub returns-then-next-chunk-clause-decided : goal.returns-then-next-chunk-clause-decided
returns-then-next-chunk-clause-decided c =
    let n = next_here c.self.invariant c.least_step-step.result c.chunk_at-next.result c.least_step-step.ensures (search rules) c.chunk_at-next.ensures in
    rw (← c.self.view_is) (decided_wrong c.self.inside.ring c.self.inside.lines.now c.self.inside.done (Take c.args.seat c.args.ticket c.args.chunk c.args.queries.now)
    (λ m. chunk_refused c.self.invariant c.least_step-step.result c.chunk_at-next.result c.least_step-step.ensures n c.args.ticket c.args.chunk c.args.queries.now (search rules) m))

pub returns-then-ticket-len-clause-decided : goal.returns-then-ticket-len-clause-decided
returns-then-ticket-len-clause-decided c = rw (← c.self.view_is) (decided_wrong c.self.inside.ring c.self.inside.lines.now c.self.inside.done (Take c.args.seat c.args.ticket c.args.chunk c.args.queries.now)
    (λ m. ticket_refused c.self.invariant c.args.ticket c.args.chunk c.args.queries.now (search rules) m))

pub takers-takers-requires : goal.takers-takers-requires
takers-takers-requires c =
    let n = next_here c.self.invariant c.least_step-step.result c.chunk_at-next.result c.least_step-step.ensures (search rules) c.chunk_at-next.ensures in
    can_serve c.self.invariant.kept _ _ n

pub returns-then-ne-clause-decided : goal.returns-then-ne-clause-decided
returns-then-ne-clause-decided c =
    let n = next_here c.self.invariant c.least_step-step.result c.chunk_at-next.result c.least_step-step.ensures (search rules) c.chunk_at-next.ensures in
    let same : c.chunk_at-next.result ≡ c.args.chunk = search rules in
    rw (← c.self.view_is) (decided_wrong c.self.inside.ring c.self.inside.lines.now c.self.inside.done (Take c.args.seat c.args.ticket c.args.chunk c.args.queries.now)
    (λ m. queries_refused c.self.invariant c.least_step-step.result c.chunk_at-next.result c.least_step-step.ensures n c.takers-takers.result.items c.takers-takers.ensures c.args.ticket c.args.queries.now (search rules)
    (subst (λ k. MayTake c.self.inside.ring (take c.self.inside.done c.self.inside.lines.now) c.args.ticket k c.args.queries.now) (sym same) m)))

pub invariant_of-self-2 : goal.invariant_of-self-2
invariant_of-self-2 c =
    let n = next_here c.self.invariant c.least_step-step.result c.chunk_at-next.result c.least_step-step.ensures (search rules) c.chunk_at-next.ensures in
    let same : c.chunk_at-next.result ≡ c.args.chunk = search rules in
    let named : c.takers-takers.result.items ≡ c.args.queries.now = search rules in
    let counted : c.args.ticket ≡ length c.self.inside.taken.items = search rules in
    let may = take_right c.self.invariant c.least_step-step.result c.chunk_at-next.result c.least_step-step.ensures n c.takers-takers.result.items c.takers-takers.ensures c.args.ticket c.args.queries.now counted named in
    let next = subst (λ s. IsNext (Take c.args.seat c.args.ticket c.args.chunk c.args.queries.now) s) (sym c.self.view_is) c.requires in
    let here = subst (λ k. IsNext (Take c.args.seat c.args.ticket k c.args.queries.now) (shown c.self.inside.ring c.self.inside.lines.now c.self.inside.done)) (sym same) next in
    rw c.chunk_at-self-inside.ensures (take_step c.self.invariant c.args.seat c.args.ticket c.chunk_at-next.result c.args.queries.now here may c.least_step-step.result n counted _ c.take.ensures _ _ refl refl refl c.in_ok-push.ensures.items)

pub returns-clause-decided : goal.returns-clause-decided
returns-clause-decided c =
    let n = next_here c.self.invariant c.least_step-step.result c.chunk_at-next.result c.least_step-step.ensures (search rules) c.chunk_at-next.ensures in
    let same : c.chunk_at-next.result ≡ c.args.chunk = search rules in
    let named : c.takers-takers.result.items ≡ c.args.queries.now = search rules in
    let counted : c.args.ticket ≡ length c.self.inside.taken.items = search rules in
    let may = take_right c.self.invariant c.least_step-step.result c.chunk_at-next.result c.least_step-step.ensures n c.takers-takers.result.items c.takers-takers.ensures c.args.ticket c.args.queries.now counted named in
    let next = subst (λ s. IsNext (Take c.args.seat c.args.ticket c.args.chunk c.args.queries.now) s) (sym c.self.view_is) c.requires in
    rw (← c.self.view_is) (decided_right c.self.inside.ring c.self.inside.lines.now c.self.inside.done (Take c.args.seat c.args.ticket c.args.chunk c.args.queries.now) next
    (subst (λ k. MayTake c.self.inside.ring (take c.self.inside.done c.self.inside.lines.now) c.args.ticket k c.args.queries.now) same may))
