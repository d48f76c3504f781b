use Rattle.std.proofs.Common.{◌≡◌, ◌+◌, suc, refl, subst, arith, take}
use Rattle.child_rules.specs.ChildPieces.{HasAllRows, rows_of_picks}
use Rattle.child_scan.specs.Scans.{pairs_at}
use Rattle.child_scan.proofs.Scanned.{one_source}
use Rattle.child_scan.proofs.scan.scan_numbers.Goals as goal

pub loop-i-preserved : goal.loop-i-preserved
loop-i-preserved c =
    let k = c.loop-i.i-index in
    let q = c.args.query.now.bound in
    let next : suc k ≡ k + 1 = omega arith in
    subst (λ n. HasAllRows (rows_of_picks q (pairs_at c.args.rows.now.objects q c.args.lists.now (take n c.args.numbers.now))) c.push_source.new.piece) next
    (one_source c.args.rows.now.objects c.args.lists.now q c.args.numbers.now k _ c.loop-i.piece c.push_source.new.piece c.loop-i-test.true refl c.loop-i.invariant c.in_ok-push_source.ensures)
