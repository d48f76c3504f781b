use Rattle.std.proofs.Common.{rules, w64, FitsSigned, refl}
use Rattle.std.proofs.lemmas.Int.{to_z-of_z}
use Rattle.area_analyser.proofs.Marking.{marked_at, marked_none}
use Rattle.area_analyser.proofs.marks.mark.Goals as goal

pub returns : goal.returns
returns c =
    let fits : FitsSigned w64 c.args.id.now = search rules in
    marked_at c.args.index.now.plan c.args.index.now.rows c.args.id.now c.in-Some.place.chunk c.in-Some.place.row c.args.marks.now.items _
    (simp (to_z-of_z w64 c.args.id.now fits) at c.in-Some.ensures.found) c.requires c.mark_chunk.ensures

pub returns-in_default : goal.returns-in_default
returns-in_default c =
    let fits : FitsSigned w64 c.args.id.now = search rules in
    marked_none c.args.index.now.plan c.args.index.now.rows c.args.id.now c.args.marks.now.items c.args.marks.now.items
    (simp (to_z-of_z w64 c.args.id.now fits) at c.in_default.ensures.none) refl
