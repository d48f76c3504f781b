use Rattle.std.proofs.Common.{◌≡◌, ◌<◌, ◌∙◌, ap, arith, subst, map, get_or, length, None, rules}
use Rattle.std.specs.Prelude.{All}
use Rattle.column_lists.specs.Columns.{IsGathered, IsPresenceAt}
use Rattle.column_lists.proofs.Presence.{count, gathered_cells, gathered_kept, within_values}
use Rattle.column_lists.proofs.column.Column.at.Goals as goal

pub gather-requires : goal.gather-requires
gather-requires c =
    subst (λ l. All (λ place. place < length l) c.args.places.now) (search rules) (within_values _ _ _ _ c.self.view_is c.requires)

pub presence_at-requires-clause-there : goal.presence_at-requires-clause-there
presence_at-requires-clause-there c =
    let same : length c.self.inside.values.items ≡ c.len.result = search rules in
    subst (λ n. All (λ place. place < n) c.args.places.now) same (within_values _ _ _ _ c.self.view_is c.requires)

pub of_parts-requires : goal.of_parts-requires
of_parts-requires c =
    let values = subst (λ l. IsGathered l c.args.places.now c.in_ok-values.values.items) c.as_slice.ensures.value c.in_ok-values.ensures in
    let present = subst (λ l. IsPresenceAt l c.args.places.now c.in_ok-present.present.items) c.as_slice-2.ensures.value c.in_ok-present.ensures in
    gathered_kept _ _ _ _ _ c.self.invariant values present

pub returns : goal.returns
returns c =
    let values = subst (λ l. IsGathered l c.args.places.now c.in_ok-values.values.items) c.as_slice.ensures.value c.in_ok-values.ensures in
    let present = subst (λ l. IsPresenceAt l c.args.places.now c.in_ok-present.present.items) c.as_slice-2.ensures.value c.in_ok-present.ensures in
    c.of_parts.ensures
    ∙ (gathered_cells _ _ _ _ _ (within_values _ _ _ _ c.self.view_is c.requires) values present
    ∙ ap (λ cells. map (λ place. get_or cells place None) c.args.places.now) c.self.view_is)
