use Rattle.std.proofs.Common.{subst, sym}
use Rattle.partial_groups.specs.Sharing.{HaveOwnParts}
use Rattle.partial_groups.proofs.Consolidating.{consolidated_as, stayed_as}
use Rattle.partial_groups.proofs.doubling.consolidate_if_doubled.Goals as goal

pub returns-in-Ok-clause-same : goal.returns-in-Ok-clause-same
returns-in-Ok-clause-same c = consolidated_as c.args.tallies.now.items c.args.groups.now.items c.consolidate.new.tallies.items c.consolidate.new.groups.items c.requires.addable c.consolidate.ensures.addable c.in-Ok.ensures.consolidated

pub returns-in-Err-clause-same : goal.returns-in-Err-clause-same
returns-in-Err-clause-same c = stayed_as c.args.tallies.now.items c.args.groups.now.items c.consolidate.new.tallies.items c.consolidate.new.groups.items c.requires.addable c.in-Err.ensures.tallies c.in-Err.ensures.groups

pub returns-in-Err-clause-own : goal.returns-in-Err-clause-own
returns-in-Err-clause-own c = subst HaveOwnParts (sym c.in-Err.ensures.groups) c.requires.own
