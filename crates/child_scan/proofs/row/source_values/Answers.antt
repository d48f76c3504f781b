use Rattle.std.proofs.Common.{◌≡◌, ◌<◌, ◌≤◌, ◌+◌, suc, ap, subst, ◌∙◌, [], arith, length, slice_set, get_or}
use Rattle.std.specs.Prelude.{None}
use Rattle.source_row.specs.SourceColumns.{source_at}
use Rattle.child_scan.proofs.Filling.{AreFirst, all_done, one_more, source_value, source_width}
use Rattle.child_scan.proofs.row.source_values.Goals as goal

pub get-requires : goal.get-requires
get-requires c =
    let there : c.loop-k.k < length c.args.lists.now.further = omega (arith, c.loop-k-test.true, c.requires.width) in
    let long : length (get_or c.args.lists.now.further c.loop-k.k []) ≡ length c.args.lists.now.ids = c.requires.sources.are.even.further c.loop-k.k [] there in
    let column = ap length c.further.ensures in
    omega (arith, c.requires.there, long, column)

pub loop-k-preserved : goal.loop-k-preserved
loop-k-preserved c =
    let p = c.args.lists.now in
    let s = source_at p c.args.i in
    let next : suc c.loop-k.k ≡ c.loop-k.k + 1 = omega arith in
    let there : c.loop-k.k < length p.further = omega (arith, c.loop-k-test.true, c.requires.width) in
    let low : c.loop-k.k < length c.loop-k.further = omega (arith, there, c.requires.sources.are.wide, c.requires.sources.are.few_names, c.loop-k.invariant.long) in
    let value = c.get.ensures ∙ ap (λ l. get_or l c.args.i None) c.further.ensures ∙ source_value p c.args.i c.loop-k.k there in
    subst (λ n. AreFirst n s.further (slice_set c.loop-k.further c.loop-k.k c.get.result)) next
    (one_more c.loop-k.k s.further c.loop-k.further c.get.result low value c.loop-k.invariant)

pub returns : goal.returns
returns c =
    let p = c.args.lists.now in
    let s = source_at p c.args.i in
    let wide : length s.further ≡ length p.further = source_width p c.args.i in
    let high : length s.further ≤ c.loop-k.k = omega (arith, wide, c.loop-k-test.false, c.requires.width) in
    all_done c.loop-k.k s.further c.loop-k.further high c.loop-k.invariant
