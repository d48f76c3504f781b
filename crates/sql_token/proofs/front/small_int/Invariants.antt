use Rattle.std.proofs.Common.{◌≡◌, drop, true}
use Rattle.std.specs.List.{list_all}
use Rattle.text_rules.specs.Numbers.{is_digit, value_after}
use Rattle.sql_token.proofs.front.small_int.Given as goal

abbrev pub invariant-loop-b : goal.invariant-loop-b
invariant-loop-b l = record {
  value : value_after l.n (drop l.b-index l.digits) ≡ value_after 0 l.digits;
  digits : list_all is_digit (drop l.b-index l.digits) ≡ true;
}
