use Rattle.std.proofs.Common.{rules, w64, FitsSigned, ◌<◌, ap, sym, subst, ◌∙◌, arith, get_or, length, List}
use Rattle.std.specs.Prelude.{ℤ, pos}
use Rattle.std.specs.List.{list_any}
use Rattle.std.specs.Ordering.{int_eq}
use Rattle.std.proofs.lemmas.Int.{to_z-of_z}
use Rattle.std.proofs.lemmas.List.{get_or-map, length-map}
use Rattle.sky_row.specs.Columns.{no_row}
use Rattle.object_index.proofs.Ascending.{Ascend, ids_ascend, if_some_then}
use Rattle.child_scan.proofs.Finding.{found_at, found_none, if_none_then}
use Rattle.child_scan.proofs.object.object_of.Goals as goal

pub place_of-requires-clause-ascend : goal.place_of-requires-clause-ascend
place_of-requires-clause-ascend c = subst (λ (l : List ℤ). Ascend l) (sym c.ids.ensures) (ids_ascend c.args.rows.now.objects c.len-count.ensures.limits.ascend)

pub returns-clause-found : goal.returns-clause-found
returns-clause-found c =
    let objects = c.args.rows.now.objects in
    let fits : FitsSigned w64 c.args.id = search rules in
    if_some_then c.place_of.result c.place_of.ensures.found (λ i with.
    let low : i < length objects = omega (arith, with.there, ap length c.ids.ensures, length-map objects (λ o. o.id)) in
    found_at c.args.id objects i c.len-count.ensures.limits.ascend low
    (sym (ap (λ (l : List ℤ). get_or l i (pos 0)) c.ids.ensures ∙ get_or-map (λ o. o.id) objects i no_row (pos 0) low) ∙ with.has ∙ to_z-of_z w64 c.args.id fits))

pub returns-clause-none : goal.returns-clause-none
returns-clause-none c =
    let fits : FitsSigned w64 c.args.id = search rules in
    if_none_then c.place_of.result c.place_of.ensures.none (λ h. found_none c.args.id c.args.rows.now.objects (sym (ap (λ (l : List ℤ). list_any (int_eq c.args.id) l) c.ids.ensures) ∙ (sym (ap (λ (z : ℤ). list_any (int_eq z) c.ids.result.now) (to_z-of_z w64 c.args.id fits)) ∙ h)))
