use Rattle.std.proofs.Common.{List, ℕ, Contains, subst, sym, leb-true, arith, ◌<◌, ◌≤◌}
use Rattle.scan_rules.proofs.QuerySets.{bit_tells, none_above}
use Rattle.scan_rules.proofs.query_set.QuerySet.has.Goals as goal

pub returns-then-q-le-QUERY_MOST : goal.returns-then-q-le-QUERY_MOST
returns-then-q-le-QUERY_MOST c =
    let within = c.if-q-le-QUERY_MOST.true in
    let low : c.args.q < 256 = omega (arith, within) in
    let tells = bit_tells c.self.inside.words c.args.q low in
    (λ t. subst (λ (l : List ℕ). Contains l c.args.q) c.self.view_is (tells.0 t), λ there. tells.1 (subst (λ (l : List ℕ). Contains l c.args.q) (sym c.self.view_is) there))

pub returns-else-q-le-QUERY_MOST : goal.returns-else-q-le-QUERY_MOST
returns-else-q-le-QUERY_MOST c =
    let beyond = c.if-q-le-QUERY_MOST.false in
    let high : 256 ≤ c.args.q = omega (arith, beyond) in (
      λ t. let low : c.args.q ≤ 255 = leb-true _ _ t in absurd (omega (arith, low, high)),
      λ there. absurd (none_above c.self.inside.words c.args.q high (subst (λ (l : List ℕ). Contains l c.args.q) (sym c.self.view_is) there)),
    )
