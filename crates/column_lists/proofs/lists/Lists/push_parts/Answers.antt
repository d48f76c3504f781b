use Rattle.std.proofs.Common.{◌≡◌, ◌∷◌, ◌++◌, [], refl, rules, ap, ◌∙◌}
use Rattle.column_lists.proofs.Gathering.{begun, begun_before, front_self, pushed}
use Rattle.column_lists.proofs.lists.Lists.push_parts.Goals as goal

pub returns-in_err-push_id-clause-err : goal.returns-in_err-push_id-clause-err
returns-in_err-push_id-clause-err c =
    begun_before c.from_residual.result _ _ _ c.self.view_is c.requires.aligned c.push_id.ensures.front (front_self _) (front_self _) (front_self _) refl

pub returns-in_err-push_part-clause-err : goal.returns-in_err-push_part-clause-err
returns-in_err-push_part-clause-err c =
    begun_before c.from_residual-in_err-push_part.result _ _ _ c.self.view_is c.requires.aligned c.push_id.ensures.front c.push_part.ensures.front (front_self _) (front_self _) refl

pub returns-in_err-push_part-2-clause-err : goal.returns-in_err-push_part-2-clause-err
returns-in_err-push_part-2-clause-err c =
    begun_before c.from_residual-in_err-push_part-2.result _ _ _ c.self.view_is c.requires.aligned c.push_id.ensures.front c.push_part.ensures.front c.push_part-2.ensures.front (front_self _) refl

pub returns-in_err-push_part-3-clause-err : goal.returns-in_err-push_part-3-clause-err
returns-in_err-push_part-3-clause-err c =
    begun_before c.from_residual-in_err-push_part-3.result _ _ _ c.self.view_is c.requires.aligned c.push_id.ensures.front c.push_part.ensures.front c.push_part-2.ensures.front c.push_part-3.ensures.front refl

pub returns-clause-err : goal.returns-clause-err
returns-clause-err c =
    begun c.push_cells.result _ _ _ c.self.view_is c.requires.aligned c.push_id.ensures.front c.push_part.ensures.front c.push_part-2.ensures.front c.push_part-3.ensures.front c.push_cells.ensures.len c.push_cells.ensures.err

pub returns-clause-ok : goal.returns-clause-ok
returns-clause-ok c =
    let ids : c.push_id.new.ids.items ≡ c.self.inside.ids.items ++ c.args.row.now.id ∷ [] = search rules in
    let xs : c.push_part.new.parts.items ≡ c.self.inside.xs.items ++ c.args.row.now.at.x ∷ [] = search (rules, ap (λ p. p.x) c.pos-at.ensures.value) in
    let ys : c.push_part-2.new.parts.items ≡ c.self.inside.ys.items ++ c.args.row.now.at.y ∷ [] = search (rules, ap (λ p. p.y) c.pos-at.ensures.value) in
    let zs : c.push_part-3.new.parts.items ≡ c.self.inside.zs.items ++ c.args.row.now.at.z ∷ [] = search (rules, ap (λ p. p.z) c.pos-at.ensures.value) in
    pushed c.push_cells.result _ _ _ c.args.row.now c.self.view_is c.requires.wide ids xs ys zs c.push_cells.ensures.len c.push_cells.ensures.ok
