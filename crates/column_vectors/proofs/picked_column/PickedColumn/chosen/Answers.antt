use Rattle.std.proofs.Common.{◌+◌, ◌<◌, ℤ, ◌∙◌, Some, ap, arith, get_or, length, map, pos, rules, subst, sym, w64, FitsSigned}
use Rattle.std.specs.Int.{w128}
use Rattle.std.proofs.lemmas.Int.{to_z-of_z}
use Rattle.column_vectors.specs.Aggregates.{StaysWithin, joined_all, joined_from, numbers_between}
use Rattle.column_vectors.specs.PickedColumns.{numbers_at}
use Rattle.column_vectors.specs.declared.join.TheConstants.{NARROW_MOST}
use Rattle.column_vectors.proofs.PickedColumns.{count_at, places_chosen, some_first}
use Rattle.column_vectors.proofs.picked_column.PickedColumn.chosen.Goals as goal

pub joined_at-chosen-requires-clause-fits : goal.joined_at-chosen-requires-clause-fits
joined_at-chosen-requires-clause-fits g c =
    let values = c.self.inside.values.now in
    let places = c.self.inside.places.now in
    let made : FitsSigned w64 c.get-first.result = search rules in
    let low : c.args.from < length places = omega (arith, c.requires.order, c.requires.there, c.if-from-to.false, ap length c.self.view_is, count_at values places) in
    let first = to_z-of_z w64 _ made ∙ (c.get-first.ensures ∙ ap (λ l. get_or l c.args.from (pos 0)) (sym c.self.view_is)) in
    subst (λ z. StaysWithin g.J.Join.joins NARROW_MOST z (map Some (numbers_at values places)) (c.args.from + 1) c.args.to) (sym first)
    (places_chosen g.J.Join.joins values places c.args.from (c.args.from + 1) c.args.to c.requires.chooses low c.self.invariant)

pub returns : goal.returns
returns g c =
    let values = c.self.inside.values.now in
    let places = c.self.inside.places.now in
    let wide : FitsSigned w128 c.from.result = search rules in
    let narrow : FitsSigned w64 c.joined_at-chosen.result = search rules in
    let made : FitsSigned w64 c.get-first.result = search rules in
    let high : c.args.from < c.args.to = omega (arith, c.requires.order, c.if-from-to.false) in
    let low : c.args.from < length (numbers_at values places) = omega (arith, high, c.requires.there, ap length c.self.view_is) in
    let first = to_z-of_z w64 _ made ∙ (c.get-first.ensures ∙ ap (λ l. get_or l c.args.from (pos 0)) (sym c.self.view_is)) in
    let joined = λ (z : ℤ). joined_from g.J.Join.joins z (numbers_between (map Some (numbers_at values places)) (c.args.from + 1) c.args.to) in
    ap Some (to_z-of_z w128 _ wide ∙ (c.from.ensures ∙ (to_z-of_z w64 _ narrow ∙ (c.joined_at-chosen.ensures ∙ ap joined first))))
    ∙ (some_first g.J.Join.joins (numbers_at values places) c.args.from c.args.to high low
    ∙ ap (λ l. joined_all g.J.Join.joins (numbers_between (map Some l) c.args.from c.args.to)) c.self.view_is)
