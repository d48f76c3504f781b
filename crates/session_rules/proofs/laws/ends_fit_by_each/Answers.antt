use Rattle.session_rules.proofs.Fitting.{fits_by_each}
use Rattle.session_rules.proofs.laws.ends_fit_by_each.Goals as goal

pub returns : goal.returns
returns c = fits_by_each
