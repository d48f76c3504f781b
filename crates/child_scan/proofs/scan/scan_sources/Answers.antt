use Rattle.std.proofs.Common.{◌<◌, subst, sym, length, List}
use Rattle.std.specs.Prelude.{All, IfOk}
use Rattle.sql_bound.specs.declared.cond.BoundCond.{BoundCond}
use Rattle.source_filter.specs.Candidates.{AreCandidates}
use Rattle.child_rules.specs.ChildPieces.{HasAllRows, rows_of_picks}
use Rattle.child_scan.proofs.Taking.{candidates_cover, candidates_there}
use Rattle.child_scan.proofs.scan.scan_sources.Goals as goal

pub scan_numbers-requires-clause-there : goal.scan_numbers-requires-clause-there
scan_numbers-requires-clause-there c =
    subst (λ l. All (λ i. i < length c.args.lists.now.ids) l) (sym c.as_slice-2.ensures.value)
    (candidates_there c.as_slice.result.now c.args.lists.now c.in_ok-numbers.numbers.items c.in_ok-numbers.ensures)

pub returns : goal.returns
returns c =
    let q = c.args.query.now.bound in
    let p = c.args.lists.now in
    let table = c.args.rows.now.objects in
    let found : AreCandidates q.conds p c.as_slice-2.result.now =
    subst (λ (conds : List BoundCond). AreCandidates conds p c.as_slice-2.result.now) c.as_slice.ensures
    (subst (λ l. AreCandidates c.as_slice.result.now p l) (sym c.as_slice-2.ensures.value) c.in_ok-numbers.ensures) in
    subst (λ ps. IfOk c.scan_numbers.result (HasAllRows (rows_of_picks q ps))) (candidates_cover table q p c.as_slice-2.result.now found) c.scan_numbers.ensures
