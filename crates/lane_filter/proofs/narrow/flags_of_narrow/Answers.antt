use Rattle.std.proofs.Common.{◌≡◌, ◌∙◌, ◌+◌, ◌<◌, ap, arith, rules, cond, length, get_or, pos, w32, w64, FitsSigned}
use Rattle.std.proofs.lemmas.List.{length-set}
use Rattle.std.proofs.lemmas.Int.{to_z-of_z}
use Rattle.lane_filter.proofs.Picking.{flags_more}
use Rattle.lane_filter.proofs.narrow.flags_of_narrow.Goals as goal

pub loop-j-preserved : goal.loop-j-preserved
loop-j-preserved g c =
    let low : c.loop-j.j < 16 = search rules in
    let there : c.loop-j.j < length c.loop-j.flags = omega (arith, low, c.loop-j.invariant.0) in
    let is : c.from.result ≡ get_or c.args.values.now (c.args.from + c.loop-j.j) (pos 0) = search rules in
    let fits : FitsSigned w64 c.from.result = search rules in
    let fits_flag : FitsSigned w32 c.flag.result = search rules in
    let own = simp (to_z-of_z w64 c.from.result fits) at c.passes.ensures ∙ ap (g.T.WideTest.passes c.args.test.now) is in (
      length-set c.loop-j.flags c.loop-j.j _ ∙ c.loop-j.invariant.0,
      flags_more (λ j. g.T.WideTest.passes c.args.test.now (get_or c.args.values.now (c.args.from + j) (pos 0))) c.loop-j.flags c.loop-j.j _ there c.loop-j.invariant.1
          (to_z-of_z w32 _ fits_flag ∙ (c.flag.ensures ∙ ap (λ b. cond b (pos 1) (pos 0)) own)),
    )
