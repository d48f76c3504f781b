use Rattle.sql_token.proofs.Scans.{blanks_passed, blanks_stop}
use Rattle.sql_token.proofs.scan.after_blanks.Goals as goal

pub returns-clause-same : goal.returns-clause-same
returns-clause-same c = blanks_passed c.args.text.now c.args.place c.blanks_len.result c.blanks_len.ensures.blanks

pub returns-clause-stops : goal.returns-clause-stops
returns-clause-stops c = blanks_stop c.args.text.now c.args.place c.blanks_len.result c.blanks_len.ensures.blanks
