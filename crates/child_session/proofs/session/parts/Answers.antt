use Rattle.std.proofs.Common.{◌∙◌, sym}
use Rattle.child_session.proofs.PlansOfForm.{all_attached_for}
use Rattle.child_session.proofs.session.parts.Goals as goal

pub returns-clause-planned : goal.returns-clause-planned
returns-clause-planned c = c.in_ok-planned.ensures ∙ sym (all_attached_for c.args.plans.now)
