use Rattle.std.proofs.Common.{rules, ◌≡◌, ◌+◌, ◌<◌, length, slice_get, get_or, get_or-set_other, is_some, None, Some, sym, ◌∙◌, ap, subst, arith, List}
use Rattle.std.proofs.lemmas.Bool.{both_ways}
use Rattle.scan_session.specs.declared.end.End.{End}
use Rattle.scan_session.proofs.Showing.{at_next, slot_was, told_more}
use Rattle.scan_session.proofs.session.all_known.Goals as goal

pub unreachable-requires : goal.unreachable-requires
unreachable-requires g c =
    let i = c.loop-place.invariant in
    let place = c.loop-place.place in
    let test = c.loop-place-test.true in
    let same = c.loop-place.auto.known in
    let low : place < length c.loop-place.known = omega (arith, test, same) in
    let was = slot_was c.args.known.now c.loop-place.known place c.index-known-place.result c.take.result low c.take.ensures.value i.behind ∙ c.in-None.is in
    both_ways _ (ap is_some (at_next c.args.known.now place ∙ was)) (c.requires.known.each (place + 1) (omega arith) (omega (arith, test)))

pub loop-place-preserved : goal.loop-place-preserved
loop-place-preserved g c =
    let i = c.loop-place.invariant in
    let place = c.loop-place.place in
    let test = c.loop-place-test.true in
    let same = c.loop-place.auto.known in
    let low : place < length c.loop-place.known = omega (arith, test, same) in
    let was = slot_was c.args.known.now c.loop-place.known place c.index-known-place.result c.take.result low c.take.ensures.value i.behind ∙ c.in-Some.is in
    let len : length c.loop-place.ends.items ≡ place = search rules in
    record {
      len = search rules;
      room = search rules;
      same = search rules;
      behind = λ k h. get_or-set_other c.loop-place.known place k c.take.new.self None (λ e. absurd (omega (arith, e, h))) ∙ i.behind k (omega (arith, h));
      told = λ k end there. told_more c.args.known.now c.loop-place.ends.items c.in-Some.end i.told
          (subst (λ n. get_or c.args.known.now n None ≡ Some c.in-Some.end) (sym len) was) k end
          (subst (λ (l : List (End g.row.P.Denot)). slice_get l k ≡ Some end) c.push_reserved.ensures.items there);
    }
