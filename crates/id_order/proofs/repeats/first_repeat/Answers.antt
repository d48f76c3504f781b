use Rattle.std.proofs.Common.{length, subst, ℕ, List}
use Rattle.id_order.specs.Keys.{IsLeast}
use Rattle.id_order.proofs.SortedKeys.{told_none, told_some}
use Rattle.id_order.proofs.repeats.first_repeat.Goals as goal
use Rattle.id_order.proofs.repeats.first_repeat.Goals.{After-drop-keys}

least : (c : After-drop-keys)
    → IsLeast c.in_ok-keys.keys.items (length c.in_ok-keys.keys.items) c.least_second.result
least c = subst (λ (l : List ℕ). IsLeast l (length l) c.least_second.result) c.as_slice.ensures.value c.least_second.ensures

pub returns-clause-none : goal.returns-clause-none
returns-clause-none c =
    told_none c.args.ids.now c.in_ok-keys.keys.items c.least_second.result c.requires.few c.in_ok-keys.ensures (least c)

pub returns-clause-some : goal.returns-clause-some
returns-clause-some c =
    told_some c.args.ids.now c.in_ok-keys.keys.items c.least_second.result c.requires.few c.in_ok-keys.ensures (least c)
