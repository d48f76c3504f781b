use Rattle.std.proofs.Common.{◌≡◌, ◌∙◌, ◌<◌, [], Some, ap, arith, false, get_or, length, rules, subst, true, FitsSigned}
use Rattle.std.specs.Int.{w128}
use Rattle.std.proofs.lemmas.Int.{to_z-of_z}
use Rattle.column_vectors.specs.Lanes.{numbers_of, values_in}
use Rattle.column_vectors.specs.Aggregates.{numbers_between}
use Rattle.column_vectors.proofs.Aggregated.{first_more}
use Rattle.column_vectors.proofs.least_greatest.chosen.Goals as goal

pub returns : goal.returns
returns g c =
    let lane = c.args.lane.now in
    let fits : FitsSigned w128 c.chosen_from.result = search rules in
    let first = c.first_known-first.ensures in
    let before : c.first_known-first.result < c.args.to = omega (arith, first.most, c.if-first-to.false) in
    let low : c.first_known-first.result < length lane.known.items = omega (arith, before, c.requires.there) in
    let is = subst (λ k. get_or k c.first_known-first.result false ≡ true) c.as_slice-known.ensures.value (first.known before) in
    let none = subst (λ k. numbers_between (values_in (numbers_of lane.numbers) k) c.args.from c.first_known-first.result ≡ []) c.as_slice-known.ensures.value (first.none (numbers_of lane.numbers)) in
    ap Some (to_z-of_z w128 _ fits ∙ c.chosen_from.ensures)
    ∙ first_more g.J.Join.joins (numbers_of lane.numbers) lane.known.items c.args.from c.first_known-first.result c.args.to first.least before low is none
