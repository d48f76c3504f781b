use Rattle.std.proofs.Common.{◌≡◌, ◌≤◌, ◌-◌, length}
use Rattle.sql_token.specs.Answers.{behind}
use Rattle.sql_token.proofs.Scans.{all_of}
use Rattle.sql_token.proofs.scan.scan.Given as goal

abbrev pub invariant-loop-tokens : goal.invariant-loop-tokens
invariant-loop-tokens l = record {
  so_far : all_of l.tokens (behind l.text l.place) ≡ behind l.text 0;
  within : l.place ≤ length l.text;
  short : length l.text ≤ 16384;
}

abbrev pub decreases-loop-tokens : goal.decreases-loop-tokens
decreases-loop-tokens l = length l.text - l.place
