use Rattle.std.proofs.Common.{◌≡◌, ◌∙◌, ap, subst, map, get_or, pos, None}
use Rattle.column_lists.specs.Columns.{IsGathered, rows_at}
use Rattle.column_lists.proofs.Gathering.{parts_same}
use Rattle.column_lists.proofs.Presence.{gathered_is}
use Rattle.column_lists.proofs.lists.Lists.at.Goals as goal

pub returns : goal.returns
returns c =
    let places = c.args.places.now in
    let ids = subst (λ l. IsGathered l places c.in_ok-ids.ids.items) c.as_slice.ensures.value c.in_ok-ids.ensures in
    let xs = subst (λ l. IsGathered l places c.in_ok-xs.xs.items) c.as_slice-2.ensures.value c.in_ok-xs.ensures in
    let ys = subst (λ l. IsGathered l places c.in_ok-ys.ys.items) c.as_slice-3.ensures.value c.in_ok-ys.ensures in
    let zs = subst (λ l. IsGathered l places c.in_ok-zs.zs.items) c.as_slice-4.ensures.value c.in_ok-zs.ensures in
    let further = c.in_ok-further.ensures ∙ ap (map (λ column. map (λ place. get_or column place None) places)) c.as_slice-5.ensures.value in
    parts_same _ _ (gathered_is _ _ _ (pos 0) ids) (gathered_is _ _ _ (pos 0) xs) (gathered_is _ _ _ (pos 0) ys) (gathered_is _ _ _ (pos 0) zs) further
    ∙ ap (λ p. rows_at p places) c.self.view_is
