use Rattle.std.proofs.Common.{rules, sym, ◌∙◌, subst, ap, arith, ℕ, List, ◌≡◌, ◌<◌, length, take, true, false}
use Rattle.std.specs.List.{list_all}
use Rattle.scan_rules.specs.declared.journal_line.JournalLine.TheVariants.{Deliver}
use Rattle.scan_core.specs.Delivering.{PaidAll}
use Rattle.scan_core.specs.Replays.{IsNext, runs_among}
use Rattle.scan_core.proofs.Delivering.{Flight}
use Rattle.scan_core.proofs.Replaying.{decided_right, decided_wrong}
use Rattle.scan_core.proofs.ReplaySteps.{ticket_unknown, delivered_refused, seat_refused}
use Rattle.scan_core.proofs.ReplayDelivers.{its_flight, lost_refused, may_deliver_now, deliver_step, all_are_owed}
use Rattle.scan_core.proofs.Words.{some_slot}
use Rattle.scan_core.proofs.replay.Replay.deliver.Goals as goal

pub returns-then-ticket-len : goal.returns-then-ticket-len
returns-then-ticket-len c = rw (← c.self.view_is) (decided_wrong c.self.inside.ring c.self.inside.lines.now c.self.inside.done (Deliver c.args.seat c.args.ticket c.args.lost.now)
    (λ m. ticket_unknown c.self.invariant c.args.seat c.args.ticket c.args.lost.now (search rules) m))

pub returns-then-it-seat : goal.returns-then-it-seat
returns-then-it-seat c = rw (← c.self.view_is) (decided_wrong c.self.inside.ring c.self.inside.lines.now c.self.inside.done (Deliver c.args.seat c.args.ticket c.args.lost.now)
    (λ m. seat_refused c.self.invariant c.args.seat c.args.ticket c.args.lost.now c.index-it.result.now (search rules) c.index-it.ensures (search rules) m))

pub returns-then-it : goal.returns-then-it
returns-then-it c = rw (← c.self.view_is) (decided_wrong c.self.inside.ring c.self.inside.lines.now c.self.inside.done (Deliver c.args.seat c.args.ticket c.args.lost.now)
    (λ m. delivered_refused c.self.invariant c.args.seat c.args.ticket c.args.lost.now c.index-it.result.now (search rules) c.index-it.ensures (search rules) m))

pub returns-then-not-may_lose_all : goal.returns-then-not-may_lose_all
returns-then-not-may_lose_all c =
    let low : c.args.ticket < length c.self.inside.taken.items = search rules in
    let w = its_flight c.self.invariant c.args.ticket c.index-it.result.now low c.index-it.ensures (search rules) in
    let seat_is : c.index-it.result.now.seat ≡ c.args.seat = search rules in
    let f = subst (λ s. Flight (take c.self.inside.done c.self.inside.lines.now) s c.args.ticket w.0 c.index-it.result.now.queries) seat_is w.1 in
    let losing : c.as_slice.result.now ≡ c.args.lost.now = search rules in
    let d = some_slot 0 c.self.inside.slots (omega (arith, c.self.invariant.kept.full)) in
    let all : list_all (runs_among c.self.inside.slots c.index-it.result.now.queries d) c.args.lost.now ≡ false = ap (λ (l : List ℕ). list_all (runs_among c.self.inside.slots c.index-it.result.now.queries d) l) (sym losing) ∙ (sym ((rw c.list.ensures.items at c.may_lose_all.ensures) d) ∙ search rules) in
    rw (← c.self.view_is) (decided_wrong c.self.inside.ring c.self.inside.lines.now c.self.inside.done (Deliver c.args.seat c.args.ticket c.args.lost.now)
    (λ m. lost_refused c.self.invariant c.args.seat c.args.ticket w.0 c.index-it.result.now.queries f d c.args.lost.now all m))

pub deliver-requires-clause-tasked : goal.deliver-requires-clause-tasked
deliver-requires-clause-tasked c =
    let low : c.args.ticket < length c.self.inside.taken.items = search rules in
    let w = its_flight c.self.invariant c.args.ticket c.index-it.result.now low c.index-it.ensures (search rules) in
    let seat_is : c.index-it.result.now.seat ≡ c.args.seat = search rules in
    let f = subst (λ s. Flight (take c.self.inside.done c.self.inside.lines.now) s c.args.ticket w.0 c.index-it.result.now.queries) seat_is w.1 in
    let named : c.as_slice-2.result.now ≡ c.index-it.result.now.queries = search rules in
    rw named f.tasked

pub deliver-requires-clause-owed : goal.deliver-requires-clause-owed
deliver-requires-clause-owed c =
    let low : c.args.ticket < length c.self.inside.taken.items = search rules in
    let w = its_flight c.self.invariant c.args.ticket c.index-it.result.now low c.index-it.ensures (search rules) in
    let seat_is : c.index-it.result.now.seat ≡ c.args.seat = search rules in
    let f = subst (λ s. Flight (take c.self.inside.done c.self.inside.lines.now) s c.args.ticket w.0 c.index-it.result.now.queries) seat_is w.1 in
    let named : c.as_slice-2.result.now ≡ c.index-it.result.now.queries = search rules in
    rw named (all_are_owed c.self.invariant c.args.seat c.args.ticket w.0 c.index-it.result.now.queries f)

pub invariant_of-self : goal.invariant_of-self
invariant_of-self c =
    let low : c.args.ticket < length c.self.inside.taken.items = search rules in
    let w = its_flight c.self.invariant c.args.ticket c.index-it.result.now low c.index-it.ensures (search rules) in
    let seat_is : c.index-it.result.now.seat ≡ c.args.seat = search rules in
    let f = subst (λ s. Flight (take c.self.inside.done c.self.inside.lines.now) s c.args.ticket w.0 c.index-it.result.now.queries) seat_is w.1 in
    let losing : c.as_slice.result.now ≡ c.args.lost.now = search rules in
    let d = some_slot 0 c.self.inside.slots (omega (arith, c.self.invariant.kept.full)) in
    let all : list_all (runs_among c.self.inside.slots c.index-it.result.now.queries d) c.args.lost.now ≡ true = ap (λ (l : List ℕ). list_all (runs_among c.self.inside.slots c.index-it.result.now.queries d) l) (sym losing) ∙ (sym ((rw c.list.ensures.items at c.may_lose_all.ensures) d) ∙ search rules) in
    let may = may_deliver_now c.self.invariant c.args.seat c.args.ticket w.0 c.index-it.result.now.queries f c.index-it.result.now low c.index-it.ensures (search rules) d c.args.lost.now all in
    let next = subst (λ s. IsNext (Deliver c.args.seat c.args.ticket c.args.lost.now) s) (sym c.self.view_is) c.requires in
    let named : c.as_slice-2.result.now ≡ c.index-it.result.now.queries = search rules in
    let paid : PaidAll c.index-it.result.now.queries c.args.lost.now c.self.inside.slots c.deliver.new.self (length c.index-it.result.now.queries) = rw named at c.deliver.ensures in
    deliver_step c.self.invariant c.args.seat c.args.ticket w.0 c.index-it.result.now.queries c.args.lost.now next f may d all low _ paid _ c.deliver_at.ensures

pub returns : goal.returns
returns c =
    let low : c.args.ticket < length c.self.inside.taken.items = search rules in
    let w = its_flight c.self.invariant c.args.ticket c.index-it.result.now low c.index-it.ensures (search rules) in
    let seat_is : c.index-it.result.now.seat ≡ c.args.seat = search rules in
    let f = subst (λ s. Flight (take c.self.inside.done c.self.inside.lines.now) s c.args.ticket w.0 c.index-it.result.now.queries) seat_is w.1 in
    let losing : c.as_slice.result.now ≡ c.args.lost.now = search rules in
    let d = some_slot 0 c.self.inside.slots (omega (arith, c.self.invariant.kept.full)) in
    let all : list_all (runs_among c.self.inside.slots c.index-it.result.now.queries d) c.args.lost.now ≡ true = ap (λ (l : List ℕ). list_all (runs_among c.self.inside.slots c.index-it.result.now.queries d) l) (sym losing) ∙ (sym ((rw c.list.ensures.items at c.may_lose_all.ensures) d) ∙ search rules) in
    let may = may_deliver_now c.self.invariant c.args.seat c.args.ticket w.0 c.index-it.result.now.queries f c.index-it.result.now low c.index-it.ensures (search rules) d c.args.lost.now all in
    let next = subst (λ s. IsNext (Deliver c.args.seat c.args.ticket c.args.lost.now) s) (sym c.self.view_is) c.requires in
    rw (← c.self.view_is) (decided_right c.self.inside.ring c.self.inside.lines.now c.self.inside.done (Deliver c.args.seat c.args.ticket c.args.lost.now) next may)
