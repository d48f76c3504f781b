use Rattle.std.proofs.Common.{codes, [], map, drop}
use Rattle.sky_io.proofs.Writes.{Under}
use Rattle.sql_rules.specs.PrintedExprs.{behind_each}
use Rattle.explain_text.specs.Explaining.{key_factor_text, key_signed_text}
use Rattle.explain_text.proofs.key_exprs.+put.Given as goal

abbrev pub invariant-put_signeds-loop-signed : goal.invariant-put_signeds-loop-signed
invariant-put_signeds-loop-signed g l = record {
  under : Under (g.K.Sink.state l.fn.sink) (g.K.Sink.state l.sink)
      (behind_each [] (map (key_signed_text l.keys) (drop l.signed-index l.rest)))
      (behind_each [] (map (key_signed_text l.keys) l.rest));
}

abbrev pub invariant-put_factors-loop-factor : goal.invariant-put_factors-loop-factor
invariant-put_factors-loop-factor g l = record {
  under : Under (g.K.Sink.state l.fn.sink) (g.K.Sink.state l.sink)
      (behind_each (codes "*") (map (key_factor_text l.keys) (drop l.factor-index l.rest)))
      (behind_each (codes "*") (map (key_factor_text l.keys) l.rest));
}
