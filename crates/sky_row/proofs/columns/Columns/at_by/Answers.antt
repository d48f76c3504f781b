use Rattle.std.proofs.Common.{◌∙◌, ap, sym, subst}
use Rattle.sky_row.specs.Columns.{AreColumns, objects_at}
use Rattle.column_lists.specs.Columns.{objects_of}
use Rattle.sky_row.proofs.Rowed.{columns_at_places, objects_are}
use Rattle.column_lists.proofs.Rowed.{places_there}
use Rattle.sky_row.proofs.columns.Columns.at_by.Goals as goal

pub at_by-requires-clause-there : goal.at_by-requires-clause-there
at_by-requires-clause-there g c = λ κs outlives. places_there c.self.inside.lists c.args.self.objects c.args.places.now (ap (λ v. v.objects) c.self.view_is) c.requires.there

pub invariant_of-result : goal.invariant_of-result
invariant_of-result g c =
    let there = places_there c.self.inside.lists c.args.self.objects c.args.places.now (ap (λ v. v.objects) c.self.view_is) c.requires.there in
    subst (AreColumns c.self.inside.schema) (sym c.in_ok-lists.ensures) (columns_at_places c.self.inside.schema c.self.inside.lists c.args.places.now c.self.invariant there c.requires.few)

pub returns-clause-objects : goal.returns-clause-objects
returns-clause-objects g c =
    let there = places_there c.self.inside.lists c.args.self.objects c.args.places.now (ap (λ v. v.objects) c.self.view_is) c.requires.there in
    ap objects_of c.in_ok-lists.ensures
    ∙ (objects_are c.self.inside.lists c.args.places.now there ∙ ap (λ v. objects_at v.objects c.args.places.now) c.self.view_is)
