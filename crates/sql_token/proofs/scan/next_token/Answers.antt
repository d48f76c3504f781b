use Rattle.std.proofs.Common.{◌<◌, length, arith}
use Rattle.sql_token.proofs.Scans.{token_next, stops_next, none_next}
use Rattle.sql_token.proofs.scan.next_token.Goals as goal

pub returns-then-from-text : goal.returns-then-from-text
returns-then-from-text c =
    none_next c.args.text.now c.args.place c.after_blanks-from.result c.after_blanks-from.ensures.same (omega arith)

pub returns-in-Ok : goal.returns-in-Ok
returns-in-Ok c =
    let within : c.after_blanks-from.result < length c.args.text.now = omega arith in
    token_next c.args.text.now c.args.place c.after_blanks-from.result c.in-Ok.token
    c.after_blanks-from.ensures.same c.after_blanks-from.ensures.from within
    (c.after_blanks-from.ensures.stops within) c.in-Ok.ensures

pub returns-in-Err : goal.returns-in-Err
returns-in-Err c =
    let within : c.after_blanks-from.result < length c.args.text.now = omega arith in
    stops_next c.args.text.now c.args.place c.after_blanks-from.result c.in-Err.why
    c.after_blanks-from.ensures.same within (c.after_blanks-from.ensures.stops within) c.in-Err.ensures
