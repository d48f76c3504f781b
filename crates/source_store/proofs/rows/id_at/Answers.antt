use Rattle.std.proofs.Common.{◌∙◌, ap, get_or, pos, rules, w64, FitsSigned}
use Rattle.std.proofs.lemmas.Int.{to_z-of_z}
use Rattle.std.proofs.lemmas.List.{get_or-map}
use Rattle.sky_row.specs.Columns.{no_row}
use Rattle.source_store.proofs.rows.id_at.Goals as goal

pub returns : goal.returns
returns c =
    let id = get_or c.ids.result.now c.args.row (pos 0) in
    let fits : FitsSigned w64 id = search rules in
    to_z-of_z w64 id fits
    ∙ (ap (λ l. get_or l c.args.row (pos 0)) c.ids.ensures
    ∙ get_or-map (λ o. o.id) c.args.rows.now.objects c.args.row no_row (pos 0) c.requires)
