use Rattle.std.proofs.Common.{◌≡◌, ◌∙◌, ◌+◌, ◌<◌, ap, sym, subst, arith, rules, cond, false, get_or, length, set}
use Rattle.std.proofs.lemmas.List.Filters.{FiltersInPlace}
use Rattle.std.proofs.lemmas.List.{get_or-map, get_or_default, length-set}
use Rattle.lane_filter.proofs.Picking.{at_most_one}
use Rattle.chunk_filter.proofs.Places.{front_more, still_there}
use Rattle.chunk_filter.proofs.selection.to_front.Goals as goal

pub loop-i-preserved : goal.loop-i-preserved
loop-i-preserved c =
    let step : c.from-count.result ≡ cond (get_or c.args.mask.now c.loop-i.i false) 1 0 = search rules in
    let there : c.loop-i.i < length c.loop-i.places = search rules in
    let x = get_or c.loop-i.places c.loop-i.i 0 in
    record {
      low = omega (arith, c.loop-i.invariant.low, step, at_most_one (get_or c.args.mask.now c.loop-i.i false));
      long = length-set c.loop-i.places c.loop-i.count x ∙ c.loop-i.invariant.long;
      filters = λ test is.
          let h = c.loop-i.invariant.filters test is in
          let low : c.loop-i.i < length c.args.places.now = omega (arith, there, h.long) in
          let own = ap test (still_there test c.args.places.now c.loop-i.places c.loop-i.count c.loop-i.i 0 there h)
          ∙ (sym (get_or-map test c.args.places.now c.loop-i.i 0 false low) ∙ ap (λ l. get_or l c.loop-i.i false) (sym is)) in
          subst (λ n. FiltersInPlace test c.args.places.now (set c.loop-i.places c.loop-i.count x) n (c.loop-i.i + 1)) (ap (λ n. c.loop-i.count + n) (sym step))
          (front_more test c.args.places.now c.loop-i.places c.loop-i.count c.loop-i.i x (get_or c.args.mask.now c.loop-i.i false) there h
          (get_or_default c.loop-i.places c.loop-i.i 0 x there) own);
    }
