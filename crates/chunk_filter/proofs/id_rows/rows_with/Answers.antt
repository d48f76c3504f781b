use Rattle.std.proofs.Common.{◌≤◌, rules, arith, FitsSigned, get_or, length, pos, subst, sym, take, take_all, w64}
use Rattle.std.proofs.lemmas.Int.{to_z-of_z}
use Rattle.std.proofs.lemmas.List.{take_more}
use Rattle.chunk_filter.specs.Ids.{AreWanted}
use Rattle.chunk_filter.proofs.IdRows.{wanted_rows}
use Rattle.chunk_filter.proofs.id_rows.rows_with.Goals as goal

pub loop-i-preserved : goal.loop-i-preserved
loop-i-preserved c =
    let id = get_or c.args.wanted.now c.loop-i.i (pos 0) in
    let fits : FitsSigned w64 id = search rules in
    subst (λ l. AreWanted c.args.ids.now l c.find.new.places.items) (sym (take_more c.args.wanted.now c.loop-i.i (pos 0) c.loop-i-test.true))
    ((simp (to_z-of_z w64 id fits) at c.in_ok-find.ensures) (take c.loop-i.i c.args.wanted.now) c.loop-i.invariant)

pub returns : goal.returns
returns c =
    let high : length c.args.wanted.now ≤ c.loop-i.i = omega (arith, c.loop-i-test.false) in
    wanted_rows c.args.ids.now c.args.wanted.now c.loop-i.places.items
    (subst (λ l. AreWanted c.args.ids.now l c.loop-i.places.items) (take_all c.loop-i.i c.args.wanted.now high) c.loop-i.invariant)
