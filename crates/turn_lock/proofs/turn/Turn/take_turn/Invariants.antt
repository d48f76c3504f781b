use Rattle.std.proofs.Common.{◌≡◌}
use Rattle.turn_lock.proofs.turn.Turn.take_turn.Given as goal

abbrev pub invariant-loop : goal.invariant-loop
invariant-loop g l =
    (goal.iterator-loop g).can_next l.iterator' × (goal.iterator-loop g).is_finite l.iterator' × (l.inner.table_id ≡ l.fn.inner.table_id) × (l.inner.me ≡ l.fn.inner.me)
