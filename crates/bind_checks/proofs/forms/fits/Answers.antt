use Rattle.std.proofs.Common.{true}
use Rattle.bind_checks.proofs.forms.fits.Goals as goal

pub returns-then-top : goal.returns-then-top
returns-then-top c = rw c.if-top.true (c.names_both.ensures true)
