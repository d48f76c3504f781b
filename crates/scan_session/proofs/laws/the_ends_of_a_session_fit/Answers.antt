use Rattle.scan_session.proofs.Fitting.{drove_fits}
use Rattle.scan_session.proofs.laws.the_ends_of_a_session_fit.Goals as goal

pub returns : goal.returns
returns c = drove_fits
