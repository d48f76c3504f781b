use Rattle.transcript_rules.proofs.Shown.{refused_shows_no_rows, early_is_told}
use Rattle.transcript_rules.proofs.laws.refused_show_no_rows.Goals as goal

pub returns-clause-refused : goal.returns-clause-refused
returns-clause-refused c = refused_shows_no_rows

pub returns-clause-early : goal.returns-clause-early
returns-clause-early c = early_is_told
