use Rattle.std.proofs.Common.{◌≡◌, ◌≤◌, drop}
use Rattle.sql_token.specs.declared.limits.TheConstants.{BRACKETS_MOST}
use Rattle.sql_token.specs.Tokens.{too_deep}
use Rattle.sql_token.proofs.depth.too_deep.Given as goal

abbrev pub invariant-loop-token : goal.invariant-loop-token
invariant-loop-token l = record {
  deep : too_deep l.depth (drop l.token-index l.tokens) ≡ too_deep 0 l.tokens;
  most : l.depth ≤ BRACKETS_MOST;
}
