use Rattle.std.proofs.Common.{take}
use Rattle.child_rules.specs.ChildPieces.{HasAllRows, rows_of_picks}
use Rattle.child_scan.specs.Scans.{pairs_at}
use Rattle.child_scan.proofs.scan.scan_numbers.Given as goal

abbrev pub invariant-loop-i : goal.invariant-loop-i
invariant-loop-i l =
    HasAllRows (rows_of_picks l.query.bound (pairs_at l.rows.objects l.query.bound l.lists (take l.i-index l.numbers))) l.piece
