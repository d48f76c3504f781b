use Rattle.std.proofs.Common.{◌<◌, ◌≤◌, ◌∙◌, ap, sym, subst, arith, length, None, get_or}
use Rattle.std.proofs.lemmas.List.{length-map}
use Rattle.sky_row.specs.Columns.{no_row}
use Rattle.column_lists.proofs.Rowed.{objects_count, object_at}
use Rattle.column_block.proofs.block.Block.row.Goals as goal

pub row-requires-clause-there : goal.row-requires-clause-there
row-requires-clause-there c = omega (arith, c.requires, objects_count c.self.inside.lists, ap (λ v. length v.objects) c.self.view_is)

pub row-requires-clause-few : goal.row-requires-clause-few
row-requires-clause-few c =
    let low : c.args.i < length c.self.inside.lists.ids = omega (arith, c.requires, objects_count c.self.inside.lists, ap (λ v. length v.objects) c.self.view_is) in
    subst (λ n. n ≤ 12) (length-map c.self.inside.lists.further (λ column. get_or column c.args.i None)) (c.self.invariant.0.rows c.args.i low).few

pub returns-clause-value : goal.returns-clause-value
returns-clause-value c =
    let low : c.args.i < length c.self.inside.lists.ids = omega (arith, c.requires, objects_count c.self.inside.lists, ap (λ v. length v.objects) c.self.view_is) in
    c.row.ensures
    ∙ (sym (object_at c.self.inside.lists c.args.i no_row low) ∙ ap (λ v. get_or v.objects c.args.i no_row) c.self.view_is)

pub returns-clause-wide : goal.returns-clause-wide
returns-clause-wide c =
    ap (λ o. length o.further) c.row.ensures
    ∙ (length-map c.self.inside.lists.further (λ column. get_or column c.args.i None) ∙ ap (λ v. v.width) c.self.view_is)
