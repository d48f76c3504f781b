use Rattle.std.proofs.Common.{◌≡◌, length, subst, sym, rules, get_or, Option, ◌∙◌}
use Rattle.scan_session.specs.KnownEnds.{IsFirstEnd}
use Rattle.scan_session.specs.declared.end.Planned.{Planned}
use Rattle.scan_session.proofs.Beginning.{marks_push, any_of}
use Rattle.scan_session.proofs.session.first_ends.Goals as goal

pub loop-plan-preserved : goal.loop-plan-preserved
loop-plan-preserved g c =
    let low = c.loop-plan-test.true in
    let len : length c.loop-plan.ends.items ≡ c.loop-plan.plan-index = search rules in
    record {
      len = search rules;
      room = search rules;
      marks =
          let here = marks_push c.args.plans.now c.loop-plan.ends.items c.first_end.result c.loop-plan.invariant.marks
          (λ d. subst (λ n. IsFirstEnd (get_or c.args.plans.now n d) c.first_end.result) (sym len) (subst (λ (p : Option (Planned g.row.P.Denot)). IsFirstEnd p c.first_end.result) (c.plan-item.is ∙ any_of c.args.plans.now c.loop-plan.plan-index c.plan-item.result d low) c.first_end.ensures)) in
          search rules;
    }
