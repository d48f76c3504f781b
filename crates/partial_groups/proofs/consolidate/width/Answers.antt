use Rattle.std.proofs.Common.{arith, ap, ◌∙◌}
use Rattle.partial_groups.specs.Groups.{width_of}
use Rattle.partial_groups.proofs.Consolidating.{first_width, no_width}
use Rattle.partial_groups.proofs.consolidate.width.Goals as goal

pub returns-then-len-eq0 : goal.returns-then-len-eq0
returns-then-len-eq0 c = no_width c.args.groups.now.items (omega (arith, c.if-len-eq0.true, c.len.ensures, c.args.groups.now.ok.0))

pub returns : goal.returns
returns c = c.width.ensures ∙ ap width_of c.index.ensures ∙ first_width c.args.groups.now.items c.index.result.now (omega (arith, c.if-len-eq0.false, c.len.ensures, c.args.groups.now.ok.0))
