use Rattle.scan_rules.proofs.OwnLines.{own_lines_tell}
use Rattle.scan_rules.proofs.laws.own_lines_tell_what_is_delivered.Goals as goal

pub returns : goal.returns
returns c ring past seat ticket run taken = own_lines_tell ring past seat ticket run taken
