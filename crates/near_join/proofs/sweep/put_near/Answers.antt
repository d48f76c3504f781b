use Rattle.std.proofs.Common.{◌≡◌, ◌∙◌, ℕ, Bool, ◌<◌, ◌+◌, ap, arith, rules, cond, length, set, sym, take}
use Rattle.std.proofs.lemmas.List.{length-set}
use Rattle.sky_rules.specs.Bounds.{near_sides}
use Rattle.sky_plan.specs.Regions.{sides_shown}
use Rattle.near_join.specs.Strips.{row_in}
use Rattle.near_join.proofs.Taking.{at_most_one, one_put}
use Rattle.near_join.proofs.sweep.put_near.Goals as goal

pub loop-i-preserved : goal.loop-i-preserved
loop-i-preserved c =
    let i = c.loop-i.i in
    let from = c.args.from in
    let test : ℕ → Bool = λ k. near_sides c.args.radius (sides_shown c.args.sides) (row_in c.args.strip.now k) in
    let is : test i ≡ c.is_near.result = sym (c.is_near.ensures ∙ ap (near_sides c.args.radius (sides_shown c.args.sides)) c.at.ensures) in
    let step : c.from-count.result ≡ cond c.is_near.result 1 0 = search rules in
    let least = c.loop-i.invariant.least in
    let low = c.loop-i.invariant.low in
    let most = c.loop-i-test.true in
    let wide = c.loop-i.invariant.room in
    let room : c.loop-i.count < length c.loop-i.numbers = omega (arith, least, low, most, wide) in
    let one = at_most_one c.is_near.result in
    record {
      least = omega (arith, least);
      most = omega (arith, most);
      low = omega (arith, low, step, one);
      room = let same = length-set c.loop-i.numbers c.loop-i.count i in omega (arith, wide, same);
      taken = ap (λ n. take (c.loop-i.count + n) (set c.loop-i.numbers c.loop-i.count i)) step ∙ one_put test c.loop-i.numbers c.loop-i.count from i c.is_near.result is least room c.loop-i.invariant.taken;
    }
