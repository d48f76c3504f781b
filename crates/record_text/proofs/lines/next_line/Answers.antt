use Rattle.std.proofs.Common.{◌<◌, length, rules}
use Rattle.record_text.proofs.PlainLines.{took_line}
use Rattle.record_text.proofs.lines.next_line.Goals as goal

pub returns : goal.returns
returns c =
    let some : 0 < length c.after_empty_lines-text.result.now = search rules in
    took_line c.args.rest.now.now c.after_empty_lines-text.result.now c.in_ok-rest.field-0.now _ c.after_empty_lines-text.ensures.same c.after_empty_lines-text.ensures.plain
    c.after_empty_lines-text.ensures.first some c.in_ok-rest.ensures
