use Rattle.std.proofs.Common.{◌≡◌, ◌<◌, ap, sym, arith, subst, length}
use Rattle.std.specs.Prelude.{All, OnOk}
use Rattle.column_lists.specs.Filling.{IsFilled, IsPresenceUpTo}
use Rattle.column_lists.proofs.Filling.{begun_cells, filled_or_not, front_or_same, presence_filled, same_cells, values_filled}
use Rattle.column_lists.proofs.Presence.{count, within_values}
use Rattle.column_lists.proofs.column.Column.fill.Goals as goal

pub fill_lists-requires-clause-there : goal.fill_lists-requires-clause-there
fill_lists-requires-clause-there c =
    subst (λ l. All (λ place. place < length l) c.args.places.now) (sym c.as_slice-values.ensures.value) (within_values _ _ _ _ c.table.view_is c.requires.there)

pub fill_lists-requires-clause-more : goal.fill_lists-requires-clause-more
fill_lists-requires-clause-more c =
    let same = ap length c.self.view_is in
    omega (arith, c.requires.more, same, count c.self.inside.values.items c.self.inside.present.items)

pub fill_lists-requires-clause-so_far : goal.fill_lists-requires-clause-so_far
fill_lists-requires-clause-so_far c =
    let same = ap length c.self.view_is in
    subst (λ l. IsFilled (length c.self.inside.values.items) l c.args.places.now c.self.inside.values.items) (sym c.as_slice-values.ensures.value)
    (values_filled _ _ _ _ _ _ c.table.invariant c.self.invariant (within_values _ _ _ _ c.table.view_is c.requires.there)
    (omega (arith, c.requires.more, c.requires.few, same, count c.self.inside.values.items c.self.inside.present.items))
    (begun_cells _ _ _ _ _ _ _ c.table.view_is c.self.view_is c.requires.so_far))

pub fill_lists-requires-clause-present : goal.fill_lists-requires-clause-present
fill_lists-requires-clause-present c =
    let same = ap length c.self.view_is in
    subst (λ l. IsPresenceUpTo (length c.self.inside.values.items) l c.args.places.now c.self.inside.present.items) (sym c.as_slice-present.ensures.value)
    (presence_filled _ _ _ _ _ _ c.self.invariant (within_values _ _ _ _ c.table.view_is c.requires.there)
    (omega (arith, c.requires.more, c.requires.few, same, count c.self.inside.values.items c.self.inside.present.items))
    (begun_cells _ _ _ _ _ _ _ c.table.view_is c.self.view_is c.requires.so_far))

pub returns-clause-ok : goal.returns-clause-ok
returns-clause-ok c =
    filled_or_not c.fill_lists.result _ _ _ _ _ _ _ c.table.view_is (within_values _ _ _ _ c.table.view_is c.requires.there) c.requires.few
    (subst (λ l. OnOk c.fill_lists.result (IsFilled c.args.count l c.args.places.now c.fill_lists.new.found.items)) c.as_slice-values.ensures.value c.fill_lists.ensures.filled)
    (subst (λ l. OnOk c.fill_lists.result (IsPresenceUpTo c.args.count l c.args.places.now c.fill_lists.new.found_present.items)) c.as_slice-present.ensures.value c.fill_lists.ensures.present)

pub returns-clause-front : goal.returns-clause-front
returns-clause-front c =
    front_or_same c.fill_lists.result _ _ _ _ _ _ c.requires.more c.requires.so_far (returns-clause-ok c)
    (same_cells c.fill_lists.result _ _ _ _ _ c.self.view_is c.fill_lists.ensures.err c.fill_lists.ensures.err_present)
