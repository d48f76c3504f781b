use Rattle.std.proofs.Common.{◌≡◌, [], replicate}
use Rattle.column_lists.proofs.further.empty_columns.Given as goal

abbrev pub invariant-loop-turn : goal.invariant-loop-turn
invariant-loop-turn l = l.columns.items ≡ replicate l.turn []
