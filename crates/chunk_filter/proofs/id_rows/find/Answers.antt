use Rattle.std.proofs.Common.{rules, FitsSigned, w64}
use Rattle.std.proofs.lemmas.Int.{to_z-of_z}
use Rattle.chunk_filter.proofs.IdRows.{none_more, on_ok_then, one_more}
use Rattle.chunk_filter.proofs.id_rows.find.Goals as goal

pub returns-in-Some : goal.returns-in-Some
returns-in-Some c =
    let fits : FitsSigned w64 c.args.id = search rules in
    let found = simp (to_z-of_z w64 c.args.id fits) at c.in-Some.ensures.found in
    on_ok_then c.insert.result c.insert.ensures (λ f. λ wanted h.
    one_more c.args.ids.now wanted c.args.id c.in-Some.row _ c.args.places.now.items c.insert.new.places.items c.requires.ascend found.0 found.1 f
    (search rules) h)

pub returns-in-None : goal.returns-in-None
returns-in-None c =
    let fits : FitsSigned w64 c.args.id = search rules in
    λ wanted h.
    none_more c.args.ids.now wanted c.args.id c.args.places.now.items (simp (to_z-of_z w64 c.args.id fits) at c.in-None.ensures.none) h
