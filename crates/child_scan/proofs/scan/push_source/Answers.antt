use Rattle.std.proofs.Common.{rules, w64, FitsSigned, ◌≡◌, ◌∷◌, [], ◌++◌, ◌∙◌, ap, sym, subst, get_or, filter, Option}
use Rattle.std.specs.Prelude.{option_map, option_to_list}
use Rattle.std.proofs.lemmas.Int.{to_z-of_z}
use Rattle.std.proofs.lemmas.Result.{on_ok_weaker}
use Rattle.table_rules.specs.Objects.{Obj}
use Rattle.sky_row.specs.Columns.{no_row}
use Rattle.source_row.specs.SourceColumns.{source_at}
use Rattle.value_rules.specs.Truth.{meets}
use Rattle.answer_rules.specs.Plans.{row_of_id}
use Rattle.child_rules.specs.Children.{child_pair}
use Rattle.child_rules.specs.ChildLaws.{own_pairs}
use Rattle.child_rules.specs.ChildPieces.{HasAllRows, rows_of_picks}
use Rattle.child_scan.specs.AddsRows.{AddsRows}
use Rattle.child_scan.proofs.Adding.{adds_nothing}
use Rattle.child_scan.proofs.scan.push_source.Goals as goal

pub returns-in-Some : goal.returns-in-Some
returns-in-Some c =
    let q = c.args.query.now in
    let table = c.args.rows.now.objects in
    let s = source_at c.args.lists.now c.args.i in
    let o = get_or table c.in-Some.object no_row in
    let fits : FitsSigned w64 c.object_id.result = search rules in
    let own : own_pairs table s ≡ child_pair o s ∷ [] =
    ap (λ (r : Option Obj). option_to_list (option_map (λ o. child_pair o s) r)) (ap (row_of_id table) (sym c.object_id.ensures ∙ sym (to_z-of_z w64 c.object_id.result fits)) ∙ c.in-Some.ensures.found) in
    on_ok_weaker c.push_pair.result
    (λ adds. subst (λ ps. AddsRows (rows_of_picks q (filter (meets q.conds) ps)) c.args.piece.now c.push_pair.new.piece) (sym own) (adds o c.object_row-first.ensures))
    c.push_pair.ensures

pub returns-in-None : goal.returns-in-None
returns-in-None c = λ all h.
    let q = c.args.query.now in
    let table = c.args.rows.now.objects in
    let s = source_at c.args.lists.now c.args.i in
    let fits : FitsSigned w64 c.object_id.result = search rules in
    let own : own_pairs table s ≡ [] =
    ap (λ (r : Option Obj). option_to_list (option_map (λ o. child_pair o s) r)) (ap (row_of_id table) (sym c.object_id.ensures ∙ sym (to_z-of_z w64 c.object_id.result fits)) ∙ c.in-None.ensures.none) in
    subst (λ ps. HasAllRows (all ++ rows_of_picks q (filter (meets q.conds) ps)) c.args.piece.now) (sym own) (adds_nothing c.args.piece.now all h)
