use Rattle.std.proofs.Common.{take}
use Rattle.chunk_filter.specs.Ids.{AreWanted}
use Rattle.chunk_filter.proofs.id_rows.rows_with.Given as goal

abbrev pub invariant-loop-i : goal.invariant-loop-i
invariant-loop-i l = AreWanted l.ids (take l.i l.wanted) l.places.items
