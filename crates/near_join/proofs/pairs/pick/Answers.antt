use Rattle.std.proofs.Common.{◌≡◌, ◌∙◌, ◌+◌, ◌<◌, ℕ, ℤ, List, ap, arith, get_or, int_le, int_lt, length, map, pos, refl, rules, sym, true, ◌+ℤ◌, FitsSigned, w64}
use Rattle.std.proofs.lemmas.Int.{to_z-of_z}
use Rattle.sky_vector.specs.Points.{Point, chord_squared}
use Rattle.sky_vector.specs.Pos.{point}
use Rattle.near_join.specs.Strips.{IsListed, IsWhole, is_close, object_at}
use Rattle.near_join.proofs.Sweeping.{row_is}
use Rattle.near_join.proofs.Upwards.{one_picked, rest_far}
use Rattle.near_join.proofs.pairs.pick.Goals as goal

pub loop-k-preserved : goal.loop-k-preserved
loop-k-preserved c =
    let objects = c.args.asked.now.rows.now.objects in
    let near = c.args.near.now in
    let limit = c.args.asked.now.reach.now.limit in
    let k = c.loop-k.k in
    let place = get_or near.places c.args.i 0 in
    let least = c.loop-k.invariant.least in
    let next = c.loop-k-test.true in
    let wide = c.len-count.ensures in
    let low : k < length near.places = omega (arith, next, wide) in
    let is : c.is_pair-is.result ≡ is_close objects limit place (get_or near.places k 0) =
    c.is_pair-is.ensures
    ∙ ap (λ (p : Point). int_le (chord_squared p (point c.at.result)) limit) (c.at-at.ensures ∙ row_is objects near c.args.i c.requires.listed c.requires.there)
    ∙ ap (λ (p : Point). int_le (chord_squared (object_at objects place).at p) limit) (c.at.ensures ∙ row_is objects near k c.requires.listed low) in
    record {
      least = omega (arith, least);
      most = omega (arith, low);
      picked = one_picked (is_close objects limit place) (get_or near.places k 0) near.places (map (λ n. n.place) c.loop-k.found.items) (map (λ n. n.place) c.push_if.new.found.items) (c.args.i + 1) k
          c.is_pair-is.result least low refl is c.in_ok-push_if.ensures.places c.loop-k.invariant.picked;
      flagged = c.in_ok-push_if.ensures.flagged;
    }

pub returns-then-is_above-clause-places : goal.returns-then-is_above-clause-places
returns-then-is_above-clause-places c =
    let objects = c.args.asked.now.rows.now.objects in
    let near = c.args.near.now in
    let root = c.args.asked.now.reach.now.root in
    let high = c.highest-high.result in
    let k = c.loop-k.k in
    let place = get_or near.places c.args.i 0 in
    let next = c.loop-k-test.true in
    let wide = c.len-count.ensures in
    let zs_wide = IsWhole.wide_z c.requires.whole in
    let fits_high : FitsSigned w64 high = search rules in
    let is : c.is_above.result ≡ int_lt high (get_or c.zs.result.now k (pos 0)) = simp to_z-of_z at c.is_above.ensures in
    let over : int_lt high (get_or near.zs k (pos 0)) ≡ true = ap (λ (l : List ℤ). int_lt high (get_or l k (pos 0))) (sym c.zs.ensures) ∙ sym is ∙ c.if-is_above.true in
    let at : high ≡ (object_at objects place).at.z +ℤ root = c.highest-high.ensures ∙ ap (λ (p : Point). p.z +ℤ root) (c.at-at.ensures ∙ row_is objects near c.args.i c.requires.listed c.requires.there) in
    c.loop-k.invariant.picked
    ∙ rest_far objects c.args.asked.now.reach.now.limit root high near.places near.zs place (c.args.i + 1) k (IsListed.zs c.requires.listed) c.requires.ascend c.args.asked.now.reach.now.is_root at c.loop-k.invariant.least
    (omega (arith, next, wide, zs_wide)) over
