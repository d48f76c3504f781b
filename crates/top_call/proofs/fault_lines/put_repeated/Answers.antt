use Rattle.std.proofs.Common.{FitsSigned, rules, codes, subst, ◌≡◌}
use Rattle.std.specs.Int.{w64, w128}
use Rattle.std.proofs.lemmas.Int.{to_z-of_z}
use Rattle.sky_io.specs.Sinks.{Wrote}
use Rattle.sky_io.proofs.Writes.{wrote_one, wrote_two}
use Rattle.top_call.specs.FaultLines.{place, valued}
use Rattle.top_call.proofs.fault_lines.put_repeated.Goals as goal

pub returns-in-Failed : goal.returns-in-Failed
returns-in-Failed g c = wrote_one _ _ (place (codes " row ") c.args.row) _ c.in-Failed.ensures

pub returns-in-Done : goal.returns-in-Done
returns-in-Done g c =
    let fits : FitsSigned w128 c.from.result = search rules in
    let short : FitsSigned w64 c.args.id.now = search rules in
    let is : c.from.result ≡ c.args.id.now = simp to_z-of_z at c.from.ensures in
    wrote_two _ _ _ (place (codes " row ") c.args.row) (valued (codes ": repeated id ") c.args.id.now) _
    c.in-Done.ensures
    (subst (λ id. Wrote (g.K.Sink.state c.put_place.new.sink) (g.K.Sink.state c.put_valued.new.sink) (valued (codes ": repeated id ") id) c.put_valued.result)
    is (simp to_z-of_z at c.put_valued.ensures))
