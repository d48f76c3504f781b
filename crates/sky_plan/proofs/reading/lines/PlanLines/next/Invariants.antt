use Rattle.std.proofs.Common.{◌≡◌, ℕ, ◌+◌, ◌≤◌, length}
use Rattle.text_rules.specs.declared.limits.TheConstants.{TEXT_MOST}
use Rattle.sky_plan.specs.Reading.{said_lines}
use Rattle.sky_plan.proofs.reading.lines.PlanLines.next.Given as goal

abbrev pub invariant-loop-line : goal.invariant-loop-line
invariant-loop-line l = record {
  said : said_lines l.self-inside.lines ≡ said_lines l.fn.self.lines;
  count : l.self-inside.number + length l.self-inside.lines ≡ l.fn.self.number + length l.fn.self.lines;
  few : l.self-inside.number + length l.self-inside.lines ≤ TEXT_MOST + 1;
}

abbrev pub decreases-loop-line : goal.decreases-loop-line
decreases-loop-line l = length l.self-inside.lines
