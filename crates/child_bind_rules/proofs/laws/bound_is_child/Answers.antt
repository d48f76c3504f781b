use Rattle.child_bind_rules.proofs.BoundChildren.{bound_is_child}
use Rattle.child_bind_rules.proofs.laws.bound_is_child.Goals as goal

pub returns : goal.returns
returns c = bound_is_child
