use Rattle.std.proofs.Common.{[], ap, length, sym, ◌∙◌, option_map}
use Rattle.std.specs.Prelude.{unwrap_or}
use Rattle.std.proofs.lemmas.Bool.{ltb-false}
use Rattle.std.proofs.lemmas.Option.{slice_get_past, slice_get-map}
use Rattle.sky_io.proofs.Writes.{wrote_nothing}
use Rattle.transcript_rules.specs.MergeLines.{merged_over}
use Rattle.column_text.proofs.Parting.{as_text}
use Rattle.explain_text.proofs.merge_order.put_listed.Goals as goal

pub returns-in-None : goal.returns-in-None
returns-in-None g c =
    as_text _ _ _ _ _
    (ap (λ o. unwrap_or o [])
    (slice_get-map (merged_over c.args.keys.now) c.args.items.now c.args.place
    ∙ ap (option_map (merged_over c.args.keys.now)) (slice_get_past c.args.items.now c.args.place (ltb-false c.args.place (length c.args.items.now) (sym c.in-None.ensures.lookup.0)))))
    (wrote_nothing _)
