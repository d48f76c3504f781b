use Rattle.std.proofs.Common.{rules, sym, ◌∙◌}
use Rattle.std.proofs.lemmas.Bool.{both_ways}
use Rattle.scan_core.proofs.ReplaySteps.{closed_refused, again_refused, full_refused, may_attach_now}
use Rattle.scan_core.proofs.replay.Replay.may_attach.Goals as goal

pub returns-then-self-clause-wrong : goal.returns-then-self-clause-wrong
returns-then-self-clause-wrong c = rw (← c.self.view_is) (λ e m. closed_refused c.self.invariant c.args.q c.args.chunks.now (search rules) m)

pub returns-then-attached_at-clause-wrong : goal.returns-then-attached_at-clause-wrong
returns-then-attached_at-clause-wrong c = rw (← c.self.view_is) (λ e m. again_refused c.self.invariant c.args.q c.args.chunks.now (search rules) c.attached_at.result (rw c.list.ensures.items at c.attached_at.ensures) (search rules) m)

pub returns-then-running-ge-RUNNING_MOST-clause-wrong : goal.returns-then-running-ge-RUNNING_MOST-clause-wrong
returns-then-running-ge-RUNNING_MOST-clause-wrong c = rw (← c.self.view_is) (λ e m. full_refused c.self.invariant c.args.q c.args.chunks.now c.running.result c.running.ensures (search rules) m)

pub returns-clause-right : goal.returns-clause-right
returns-clause-right c = rw (← c.self.view_is) (λ e. may_attach_now c.self.invariant c.args.q c.args.chunks.now (search rules) (search rules) (search rules) c.attached_at.result (rw c.list.ensures.items at c.attached_at.ensures) (search rules) c.running.result c.running.ensures (search rules) (sym c.all_below.ensures ∙ e))

pub returns-clause-wrong : goal.returns-clause-wrong
returns-clause-wrong c = rw (← c.self.view_is) (λ e m. both_ways _ (sym c.all_below.ensures ∙ e) m.in_ring)
