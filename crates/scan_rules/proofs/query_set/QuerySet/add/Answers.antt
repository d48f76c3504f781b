use Rattle.std.proofs.Common.{List, ℕ, ◌++◌, ◌∷◌, [], ap, subst, sym, ◌∙◌, arith, None, ◌<◌}
use Rattle.std.specs.Option.{IfSome}
use Rattle.std.specs.List.{last_or}
use Rattle.scan_rules.proofs.QuerySets.{still_four, appends}
use Rattle.scan_rules.proofs.query_set.QuerySet.add.Goals as goal

pub invariant_of-self : goal.invariant_of-self
invariant_of-self c = let low = c.requires.to_255 in still_four c.self.inside.words c.args.q c.self.invariant (omega (arith, low))

pub returns : goal.returns
returns c =
    let low = c.requires.to_255 in
    appends c.self.inside.words c.args.q c.self.invariant (omega (arith, low)) (subst (λ (l : List ℕ). IfSome (last_or None l) (λ last. last < c.args.q)) (sym c.self.view_is) c.requires.above)
    ∙ ap (λ (l : List ℕ). l ++ c.args.q ∷ []) c.self.view_is
