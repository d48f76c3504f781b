use Rattle.std.proofs.Common.{◌≡◌, ◌+◌, ◌*◌, ◌≤◌, ◌++◌, codes, length, map, drop}
use Rattle.sql_rules.specs.PrintedExprs.{behind_each}
use Rattle.transcript_rules.specs.Tables.{value_text}
use Rattle.answer_text.proofs.row_line.push_further_values.Given as goal

abbrev pub invariant-loop-left : goal.invariant-loop-left
invariant-loop-left l = record {
  there : l.left ≤ length l.rest;
  text : l.line ≡ behind_each (codes ",") (map value_text (drop l.left l.rest)) ++ l.fn.line;
  few : length l.line + 21 * l.left ≤ length l.fn.line + 21 * length l.rest;
}

abbrev pub decreases-loop-left : goal.decreases-loop-left
decreases-loop-left l = l.left
