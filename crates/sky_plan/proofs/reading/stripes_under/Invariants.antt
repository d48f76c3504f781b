use Rattle.std.proofs.Common.{◌≡◌, [], length}
use Rattle.sky_rules.specs.SkySteps.{stripes_with}
use Rattle.sky_plan.specs.Reading.{behind, said_lines}
use Rattle.sky_plan.proofs.reading.stripes_under.Given as goal

abbrev pub invariant-loop-line : goal.invariant-loop-line
invariant-loop-line l = record {
  judged : stripes_with l.version l.stripes (said_lines l.lines.lines) ≡ stripes_with l.version [] (said_lines l.fn.lines.lines);
  behind : behind l.lines ≡ behind l.fn.lines;
}

abbrev pub decreases-loop-line : goal.decreases-loop-line
decreases-loop-line l = length (said_lines l.lines.lines)
