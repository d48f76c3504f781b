use Rattle.std.proofs.Common.{◌≡◌, ◌≤◌, length, arith, rules}
use Rattle.column_lists.proofs.Gathering.{all_cut}
use Rattle.column_lists.proofs.further.truncate_cells.Goals as goal

pub returns : goal.returns
returns c =
    let all : length c.args.columns.now.items ≤ c.loop-k.k = search rules in
    all_cut _ _ c.args.count c.loop-k.invariant.count (λ j low. c.loop-k.invariant.cut j (omega (arith, low, all)))
