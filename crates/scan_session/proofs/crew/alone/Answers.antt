use Rattle.std.proofs.Common.{◌≡◌, arith, drop, length, sym, subst, rules, List, Option}
use Rattle.scan_session.specs.Czars.{Ran}
use Rattle.scan_session.specs.declared.end.End.{End}
use Rattle.scan_session.specs.declared.end.Planned.{Planned}
use Rattle.scan_session.proofs.Manning.{take_seam, manned_alone}
use Rattle.scan_session.proofs.crew.alone.Goals as goal

pub returns-clause-ran : goal.returns-clause-ran
returns-clause-ran g c =
    let new = c.czar-outcome.new.ends in
    let plans = c.args.plans.items in
    let ends = c.args.ends.items in
    let len : length new ≡ c.args.ends.len = search rules in
    let e : c.as_mut_slice-2.result.now ≡ ends = search rules in
    let p : c.as_mut_slice.result.now ≡ plans = search rules in
    let boards = c.args.scan.now.boards.now in
    let Left : List (Option (Planned g.row.P.Denot)) → List (Option (End g.row.P.Denot)) → List (Option (End g.row.P.Denot)) → Type 0 =
    λ plans before after. Ran g.P.Work.stands (g.B.Boards.has boards) (g.B.Boards.home boards) (g.B.Tasks.at c.args.seat) (g.B.Tasks.at c.czar-outcome.result.1) plans before after c.args.steps.now c.czar-outcome.result.0 in
    subst (λ l. Left plans ends l) (sym (take_seam new (drop (length new) ends) c.args.ends.len len))
    (subst (λ l. Left plans l new) e (subst (λ l. Left l c.as_mut_slice-2.result.now new) p c.czar-outcome.ensures.ran))

pub returns-clause-manned : goal.returns-clause-manned
returns-clause-manned g c p =
    let stays = c.czar-outcome.ensures.stays p in
    let made = stays.made in
    record {
      manned = manned_alone g.P.Work.asks (g.B.Tasks.at c.args.seat p) (g.B.Tasks.at c.czar-outcome.result.1 p) stays (c.czar-outcome.ensures.closed p) (c.czar-outcome.ensures.knows p);
      made = omega (arith, made);
      lost = stays.lost;
      causes = λ n h low. absurd (omega (arith, made, h, low));
    }
