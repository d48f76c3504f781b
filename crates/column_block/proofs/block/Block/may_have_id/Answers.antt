use Rattle.std.proofs.Common.{rules, ◌∙◌, ap, sym, map, FitsSigned, w64}
use Rattle.std.proofs.lemmas.Int.{to_z-of_z}
use Rattle.sky_row.proofs.Rowed.{ids_are}
use Rattle.column_block.proofs.Filters.{none_has}
use Rattle.column_block.proofs.block.Block.may_have_id.Goals as goal

pub returns : goal.returns
returns c = λ out.
    let fits : FitsSigned w64 c.args.id = search rules in
    none_has c.args.self.now.objects c.self.inside.lists.ids c.self.inside.filter c.args.id
    (ids_are c.self.inside.lists ∙ ap (λ v. map (λ o. o.id) v.objects) c.self.view_is)
    c.self.invariant.1
    (sym (simp (to_z-of_z w64 c.args.id fits) at c.may_have.ensures) ∙ out)
